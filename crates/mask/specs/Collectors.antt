-- Places that are lent out to be filled, and what a listing puts into them.
--   held        what a collector's places hold
--   free        how many of them are free
--   SameLoan    two collectors are over the same loan of places, so that whoever lent them knows at the loan's end what
--               they hold
--   Unmoved     a collector is as it was: every place, the count and the loan
--   Appended    items put behind the filled places, in order; every other place as it was
--   Gathered    the same of a collector, over the same loan
--   answer_of   what a listing answers: first the type's limit is read, then the free places
--   Listed      a listing's answer, with what it put into the places
use Rattle.std.specs.Prelude.{◌≡◌, ℕ, ◌+◌, ◌-◌, Bool, cond, List, map, length, take, drop, Ok, Err, Result, nat_le}
use Rattle.index.specs.declared.refusal.Refusal.{Refusal}
use Rattle.index.specs.declared.refusal.Refusal.TheVariants.{Limit, Places}
use Rattle.mask.specs.declared.collector.Collector.{Collector}
use Rattle.mask.specs.Machine.{count, indices}

abbrev pub held : {X : Type 0} → Collector X → List X
held c = c.places.now

abbrev pub free : {X : Type 0} → Collector X → ℕ
free c = length c.places.now - c.filled

abbrev pub SameLoan : {X : Type 0} → Collector X → Collector X → Type 0
SameLoan before after = after.places.ghost_name ≡ before.places.ghost_name

pub record Unmoved {X : Type 0} (before after : Collector X) : Type 0 where
  pub places : held after ≡ held before
  pub filled : after.filled ≡ before.filled
  pub loan : SameLoan before after

pub record Appended {X : Type 0} (items : List X) (filled : ℕ) (old : List X) (filled' : ℕ) (new : List X) : Type 0 where
  pub counts : filled' ≡ filled + length items
  pub long : length new ≡ length old
  pub before : take filled new ≡ take filled old
  pub holds : take (length items) (drop filled new) ≡ items
  pub behind : drop (filled + length items) new ≡ drop (filled + length items) old

pub record Gathered {X : Type 0} (items : List X) (before after : Collector X) : Type 0 where
  pub puts : Appended items before.filled (held before) after.filled (held after)
  pub loan : SameLoan before after

module _ {T : Type 0} (limit : ℕ) (place : T → ℕ) where
  abbrev pub answer_of : ℕ → List Bool → ℕ → Result ℕ Refusal
  answer_of n bs room = cond (nat_le n limit) (cond (nat_le (count bs) room) (Ok (count bs)) (Err Places)) (Err Limit)

  -- the places and the fill count, old and new, for an answer
  abbrev pub Put : List Bool → ℕ → List T → ℕ → List T → Result ℕ Refusal → Type 0
  Put bs filled old filled' new (Ok k) =
      (filled' ≡ filled + k) × (take filled new ≡ take filled old)
      × (map place (take k (drop filled new)) ≡ indices 0 bs)
      × (drop (filled + k) new ≡ drop (filled + k) old)
  Put bs filled old filled' new (Err e) = (filled' ≡ filled) × (new ≡ old)

  pub record Listed (n : ℕ) (bs : List Bool) (before after : Collector T) (answer : Result ℕ Refusal) : Type 0 where
    pub answers : answer ≡ answer_of n bs (free before)
    pub puts : Put bs before.filled (held before) after.filled (held after) answer
    pub loan : SameLoan before after
