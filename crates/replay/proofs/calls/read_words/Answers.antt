use Rattle.std.proofs.Common.{rules, Some, None}
use Rattle.replay.proofs.calls.read_words.Goals as goal

pub returns-in_ok-call-in-None-None-None : goal.returns-in_ok-call-in-None-None-None
returns-in_ok-call-in-None-None-None c =
    record {
      called = c.in_ok-name.name.now;
      named = search rules;
      on = search rules;
      with = None;
      numbered = search rules;
      spelt = search rules;
      ends = search rules;
    }

pub returns-in_ok-call-in-Some-None-None : goal.returns-in_ok-call-in-Some-None-None
returns-in_ok-call-in-Some-None-None c =
    record {
      called = c.in_ok-name.name.now;
      named = search rules;
      on = search rules;
      with = Some c.in_ok-read_number-in-Some-None-None.field-0;
      numbered = search rules;
      spelt = search rules;
      ends = search rules;
    }

pub returns-in_ok-call-in-Some-Some-None : goal.returns-in_ok-call-in-Some-Some-None
returns-in_ok-call-in-Some-Some-None c =
    record {
      called = c.in_ok-name.name.now;
      named = search rules;
      on = search rules;
      with = Some c.in_ok-read_number-in-Some-Some-None.field-0;
      numbered = search rules;
      spelt = search rules;
      ends = search rules;
    }
