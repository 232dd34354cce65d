-- Each turn puts the lowest member of the word that is not put yet, until the word has none left.
use Rattle.std.proofs.Common.{ℕ, ◌+◌, ◌*◌, ◌<◌, Bool, List, length, Some, None, Option, refl, ap, ◌∙◌, subst, arith}
use Rattle.std.specs.Option.{IsSome}
use Rattle.index.specs.Indices.{Found}
use Rattle.mask.proofs.Listing.{partly_none, within_found, within_more, within_all, within_at, past_end, put_all}
use Rattle.mask.proofs.lister.put_members.Goals as goal

pub loop-k-init : goal.loop-k-init
loop-k-init g c = (partly_none _ _ _ _ (omega (arith, c.requires.room, c.args.out.now.ok)), refl)

pub push-requires : goal.push-requires
push-requires g c =
    let w = c.loop-bit.invariant.0 c.args.out.now.filled c.args.out.now.places.now c.loop-k.invariant.0 in
    let f = within_found g.T.Idx.place _ _ _ _ _ c.loop-k.k c.loop-bit.rest c.in-Some.bit w c.in-Some.ensures.0 c.in-Some.ensures.1 in
    omega (arith, w.partly.room, w.partly.long, ap length f.splits)

is_found : {T : Type 0} (limit : ℕ) (place : T → ℕ) (i : ℕ) (r : Option T) → i < limit → Found limit place i r → IsSome r
is_found limit place i None l h = absurd (omega arith)
is_found limit place i (Some v) l h = refl

-- a member lies in the domain, which the type covers
pub unwrap-value-requires : goal.unwrap-value-requires
unwrap-value-requires g c =
    let w = c.loop-bit.invariant.0 c.args.out.now.filled c.args.out.now.places.now c.loop-k.invariant.0 in
    let f = within_found g.T.Idx.place _ _ _ _ _ c.loop-k.k c.loop-bit.rest c.in-Some.bit w c.in-Some.ensures.0 c.in-Some.ensures.1 in
    is_found g.T.Idx.LIMIT g.T.Idx.place (64 * c.loop-k.k + c.in-Some.bit) c.new.result (omega (arith, f.high, g.met.M.Mask.laws.long c.args.mask.now, c.requires.covered)) c.new.ensures

pub loop-bit-preserved : goal.loop-bit-preserved
loop-bit-preserved g c = (
  λ start old p.
      let bs : List Bool = g.M.Mask.kind.members c.args.mask.now in
      let w = c.loop-bit.invariant.0 start old p in
      let at : Found g.T.Idx.LIMIT g.T.Idx.place (64 * c.loop-k.k + c.in-Some.bit) (Some c.unwrap-value.result) =
      subst (λ (r : Option _). Found g.T.Idx.LIMIT g.T.Idx.place (64 * c.loop-k.k + c.in-Some.bit) r) c.unwrap-value.ensures c.new.ensures in
      within_at g.T.Idx.place bs start old c.loop-k.k c.without_bit-rest.result c.push.ensures.filled c.push.ensures.places
      (within_more g.T.Idx.place bs start old c.loop-bit.out.filled c.loop-bit.out.places.now c.loop-k.k c.loop-bit.rest c.in-Some.bit w c.in-Some.ensures.0 c.in-Some.ensures.1 c.unwrap-value.result c.without_bit-rest.result at.1 c.without_bit-rest.ensures.bits),
  c.push.ensures.loan ∙ c.loop-bit.invariant.1,
)

pub loop-k-preserved : goal.loop-k-preserved
loop-k-preserved g c = (
  within_all g.T.Idx.place _ _ _ _ _ c.loop-k.k c.loop-bit.rest c.in_default.ensures (c.loop-bit.invariant.0 c.args.out.now.filled c.args.out.now.places.now c.loop-k.invariant.0),
  c.loop-bit.invariant.1 ∙ c.loop-k.invariant.1,
)

pub returns-clause-puts : goal.returns-clause-puts
returns-clause-puts g c =
    let bs : List Bool = g.M.Mask.kind.members c.args.mask.now in
    put_all g.T.Idx.place bs c.args.out.now.filled c.args.out.now.places.now c.loop-k.out.filled c.loop-k.out.places.now (64 * c.loop-k.k)
    (past_end bs (64 * c.loop-k.k) (omega (arith, g.met.M.Mask.laws.long c.args.mask.now, c.num_words-k-end.ensures, c.domain_size.ensures))) c.loop-k.invariant.0
