-- What is said of the mask of a number, where there is one.
use Rattle.std.proofs.Common.{◌≡◌, ℕ, Bool, List, Option, Some, Ok, Err, Result, sym, subst}
use Rattle.std.specs.Option.{MatchOption}
use Rattle.mask.specs.Machine.{Move, Report, step}
use Rattle.replay.specs.declared.answers.Answer.{Answer}
use Rattle.replay.specs.declared.fault.Fault.{Fault}
use Rattle.replay.specs.declared.fault.Fault.TheVariants.{Missing}
use Rattle.replay.specs.declared.kinds.AnyMask.{AnyMask}
use Rattle.replay.specs.declared.store.Store.{Store}
use Rattle.replay.specs.Masks.{domain_of, members_of, rule_of, spare_of, Pictures}
use Rattle.replay.specs.Stores.{mask_at, reported, TurnsAt, OnMask, Puts, Same, Shown, Turns}

module _ (s : Store) (n : ℕ) (t : Store) (old new : AnyMask) (found : mask_at s n ≡ Some old) (puts : Puts s n new t) where
  on_found : (r : Result Answer Fault) (P : AnyMask → Type 0) → P old → OnMask s n r t P
  on_found r P p = subst (λ (o : Option AnyMask). MatchOption o ((r ≡ Err Missing) × Same s t) P) (sym found) p

  pub turned : (call : Move) (report : Report) (r : Result Answer Fault)
      → ◌≡◌ {A = Report × List Bool} (report, members_of new) (step (domain_of old) (rule_of old) (members_of old) call)
      → r ≡ reported report → domain_of new ≡ domain_of old → rule_of new ≡ rule_of old → spare_of new ≡ spare_of old → TurnsAt s n r t call
  turned call report r machine answered domain rule spare =
      let turns : Turns old call r new = record { report = report; machine = machine; answered = answered; domain = domain; rule = rule; spare = spare } in
      on_found r (λ (m : AnyMask). (c : AnyMask) × Turns m call r c × Puts s n c t) (new, turns, puts)

  pub shown : (a : Answer) → Pictures old a → domain_of new ≡ domain_of old → members_of new ≡ members_of old → OnMask s n (Ok a) t (Shown s n (Ok a) t)
  shown a pictures domain members = on_found (Ok a) (Shown s n (Ok a) t) (pictures, (new, domain, members, puts))
