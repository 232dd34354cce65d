use Rattle.std.proofs.Common.{ap, Some, None, ℕ, Option, List, Bor, subst}
use Rattle.std.specs.Option.{option_copied}
use Rattle.std.specs.Str.Iter.{split_whitespace_rest, split_whitespace_steps}
use Rattle.std.specs.declared.str.SplitWhitespace.{SplitWhitespace}
use Rattle.replay.specs.Lines.{Cuts}
use Rattle.replay.proofs.calls.Words.of.Goals as goal

cut : (s : SplitWhitespace) (r : Option (Bor (List ℕ))) (t : SplitWhitespace)
    → split_whitespace_steps s r t → Cuts (split_whitespace_rest s) (option_copied r) (split_whitespace_rest t)
cut s None t h = (ap split_whitespace_rest h.0, h.1)
cut s (Some x) t h = h

pub returns : goal.returns
returns c =
    let from : SplitWhitespace = c.split_whitespace-words.result in
    record {
      past_name = c.next.new.self.rest.now;
      past_mask = c.next-2.new.self.rest.now;
      past_number = c.next-3.new.self.rest.now;
      past_word = c.next-4.new.self.rest.now;
      past_more = c.next-5.new.self.rest.now;
      name =
          subst (λ (text : List ℕ). Cuts text (option_copied c.next.result) c.next.new.self.rest.now) c.split_whitespace-words.ensures.rest
          (cut from _ _ c.next.ensures.steps);
      mask = cut c.next.new.self _ _ c.next-2.ensures.steps;
      number = cut c.next-2.new.self _ _ c.next-3.ensures.steps;
      word = cut c.next-3.new.self _ _ c.next-4.ensures.steps;
      more = cut c.next-4.new.self _ _ c.next-5.ensures.steps;
    }
