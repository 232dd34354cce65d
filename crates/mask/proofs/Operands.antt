-- The operands that a list of calls names.
use Rattle.std.proofs.Common.{◌≡◌, ℕ, ◌<◌, ◌≤◌, Bool, true, false, cond, ltb, List, [], ◌∷◌, map, length, get_or, Some, None, Option, refl, ap, arith}
use Rattle.std.proofs.lemmas.Bool.{ltb-true, lt-ltb, le-ltb, cond-true, cond-false}
use Rattle.std.specs.Option.{option_or}
use Rattle.words.specs.declared.table.Table.{Table}
use Rattle.mask.specs.Kinds.{Kind}
use Rattle.mask.specs.Trials.{Named, past_call, past_row, first_answer, move}
use Rattle.mask.specs.declared.calls.Call.{Call}
use Rattle.mask.specs.declared.calls.Call.TheVariants.{Insert, Remove, Clear, InsertAll, Combine}
use Rattle.mask.proofs.Balance.{AllFair}
use Rattle.mask.proofs.Firsts.{none_at}

module _ {T O : Type 0} where
  named : (n : ℕ) (c : Call T O) → past_call n c ≡ None → Named n c
  named n (Insert i) h = tt
  named n (Remove i) h = tt
  named n Clear h = tt
  named n InsertAll h = tt
  named n (Combine o j) h = go (ltb j n) refl h where
    go : (b : Bool) → ltb j n ≡ b → cond b None (Some j) ≡ None → j < n
    go true e p = ltb-true j n e
    go false e p = absurd (let z : ◌≡◌ {A = ℕ} 0 1 = cc in omega arith)

  not_past : (n : ℕ) (c : Call T O) → Named n c → past_call n c ≡ None
  not_past n (Insert i) h = refl
  not_past n (Remove i) h = refl
  not_past n Clear h = refl
  not_past n InsertAll h = refl
  not_past n (Combine o j) h = cond-true (ltb j n) _ _ (lt-ltb j n h)

  pub past_cons : (n : ℕ) (c : Call T O) (cs : List (Call T O)) → Named n c → past_row n (c ∷ cs) ≡ past_row n cs
  unfolding first_answer
  past_cons n c cs h = ap (λ (o : Option ℕ). option_or o (past_row n cs)) (not_past n c h)

  pub past_here : (n : ℕ) (o : O) (j : ℕ) (cs : List (Call T O)) → n ≤ j → past_row n (Combine o j ∷ cs) ≡ Some j
  unfolding first_answer
  past_here n o j cs h = ap (λ (a : Option ℕ). option_or a (past_row n cs)) (cond-false (ltb j n) _ _ (le-ltb j n h))

  pub all_named : (n : ℕ) (cs : List (Call T O)) → past_row n cs ≡ None → (k : ℕ) (c : Call T O) → k < length cs → Named n (get_or cs k c)
  all_named n cs h k c l = named n (get_or cs k c) (none_at (past_call n) cs h k c l)

  pub all_fair : {M : Type 0} (place : T → ℕ) (table : O → Table) (kind : Kind M) → ((s : M) → length (kind.members s) ≡ kind.domain s) → (fill : ℕ → M) (cs : List (Call T O)) → AllFair (map (move place table kind fill) cs)
  unfolding AllFair
  all_fair place table kind long fill [] = tt
  all_fair place table kind long fill (Insert i ∷ cs) = (tt, all_fair place table kind long fill cs)
  all_fair place table kind long fill (Remove i ∷ cs) = (tt, all_fair place table kind long fill cs)
  all_fair place table kind long fill (Clear ∷ cs) = (tt, all_fair place table kind long fill cs)
  all_fair place table kind long fill (InsertAll ∷ cs) = (tt, all_fair place table kind long fill cs)
  all_fair place table kind long fill (Combine o j ∷ cs) = (long (fill j), all_fair place table kind long fill cs)
