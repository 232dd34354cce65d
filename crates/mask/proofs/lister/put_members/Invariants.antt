use Rattle.std.proofs.Common.{ℕ, ◌*◌, List}
use Rattle.mask.specs.Collectors.{held, SameLoan}
use Rattle.mask.proofs.Listing.{Partly, Within}
use Rattle.mask.proofs.lister.put_members.Given as goal

-- from wherever the word's start had come, the members below some index of the word are put, and the others are still to come
abbrev pub invariant-loop-bit : goal.invariant-loop-bit
invariant-loop-bit g l =
    ((start : ℕ) (old : List g.row.T.Denot) → Partly g.T.Idx.place (g.M.Mask.kind.members l.mask) start old l.initial.out.filled (held l.initial.out) (64 * l.k)
    → Within g.T.Idx.place (g.M.Mask.kind.members l.mask) start old l.out.filled (held l.out) l.k l.rest)
    × SameLoan l.initial.out l.out

abbrev pub decreases-loop-bit : goal.decreases-loop-bit
decreases-loop-bit g l = l.rest

abbrev pub invariant-loop-k : goal.invariant-loop-k
invariant-loop-k g l =
    Partly g.T.Idx.place (g.M.Mask.kind.members l.mask) l.initial.out.filled (held l.initial.out) l.out.filled (held l.out) (64 * l.k)
    × SameLoan l.initial.out l.out
