use Rattle.std.proofs.Common.{◌∙◌, ap, map}
use Rattle.spec_history.specs.Queries.{shown_match}
use Rattle.ts_answers.proofs.answering.answer.Goals as goal

pub returns-in-Ok : goal.returns-in-Ok
returns-in-Ok g c = record {
  matches = c.in-Ok.found;
  are_matches = rw (c.in_ok-keep.ensures.query, c.in_ok-keep.ensures.text, c.in_ok-keep.ensures.hosts) at c.in-Ok.ensures.matches;
  few = c.in-Ok.ensures.few;
  shown_is = c.in_ok-shown-in-Ok.ensures ∙ ap (map (shown_match c.args.query.now)) c.as_slice.ensures;
}

pub returns-in-Err-Many : goal.returns-in-Err-Many
returns-in-Err-Many g c = rw (c.in_ok-keep.ensures.query, c.in_ok-keep.ensures.text, c.in_ok-keep.ensures.hosts) at (c.in-Err-Many.ensures.many c.in-Err-Many.field-0-is)
