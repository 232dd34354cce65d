-- The meaning of a mask that is empty or full.
--   none_or_all     the holding rule: no index is a member, or every one is
--   uniform_kind    what such a mask means: its domain; the flag at every index of it; the rule; its picture
--                   is the domain and the flag; no memory lies past it
--   nothing_given   what is handed over at creation comes to: it suffices for every domain, and nothing is
--                   left over
use Rattle.std.specs.Prelude.{true, ◌&&◌, ◌||◌, [], ◌∷◌, length, replicate, ◌==◌, nat_lt}
use Rattle.mask.specs.Kinds.{Kind, Backing}
use Rattle.mask.specs.Machine.{Rule, count}
use Rattle.words.specs.Bits.{one}
use Rattle.own_kind.specs.declared.all_or_nothing.AllOrNothing.{AllOrNothing}

abbrev pub none_or_all : Rule
none_or_all bs = count bs == 0 || count bs == length bs

-- over no index the flag is not in the picture, since the empty and the full set are one there
abbrev pub uniform_kind : Kind AllOrNothing
uniform_kind =
    record {
      domain = λ s. s.domain_size;
      members = λ s. replicate s.domain_size s.full;
      rule = λ s. none_or_all;
      picture = λ s. s.domain_size ∷ one (s.full && nat_lt 0 s.domain_size) ∷ [];
      spare = λ s. [];
    }

abbrev pub nothing_given : {A : Type 0} → Backing A
nothing_given =
    record {
      suffices = λ n memory. true;
      rule = λ n memory. none_or_all;
      spare = λ n memory. [];
    }
