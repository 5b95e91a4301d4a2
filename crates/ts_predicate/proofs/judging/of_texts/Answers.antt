use Rattle.std.proofs.Common.{◌∙◌, sym, subst, List, take, get_or, slice_index_or}
use Rattle.std.proofs.lemmas.List.{take_all}
use Rattle.std.proofs.lemmas.List.Elements.{Contains-get_or}
use Rattle.ts_base.specs.Bytes.{Bytes}
use Rattle.spec_matches.specs.declared.found.Capture.{Capture}
use Rattle.ts_predicate.specs.Asking.{AllLeaveOpen}
use Rattle.ts_predicate.specs.Predicates.{AnswersOf, IsAs, capture_text, texts_of}
use Rattle.ts_predicate.proofs.AskLemmas.{open_more, decided, ended, text_named, texts_none, texts_one}
use Rattle.ts_predicate.proofs.judging.of_texts.Goals as goal

abbrev none : Capture
none = record { node = 0; name = 0; start = 0; end = 0 }

pub is_of_node-requires-clause-node : goal.is_of_node-requires-clause-node
is_of_node-requires-clause-node g c = (c.requires.within.0, c.requires.within.1 (slice_index_or c.args.captures.now c.loop-capture.capture-index none) (Contains-get_or c.args.captures.now c.loop-capture.capture-index none c.loop-capture-test.true))

pub loop-capture-preserved-then-not-is_named : goal.loop-capture-preserved-then-not-is_named
loop-capture-preserved-then-not-is_named g c = record {
  matcher = c.loop-capture.invariant.matcher;
  left_open = subst (λ (l : List Bytes). AllLeaveOpen c.args.predicate.now.some c.args.predicate.now.negated (IsAs (AnswersOf (g.H.Hosts.called c.args.hosts.now) (g.H.Hosts.accepts c.args.hosts.now)) c.args.predicate.now.asked) l) (sym (texts_none c.args.text.now c.args.predicate.now.capture c.args.captures.now c.loop-capture.capture-index none c.loop-capture-test.true (sym c.is_named.ensures ∙ c.if-not-is_named.true))) c.loop-capture.invariant.left_open;
}

pub returns-then-decides-clause-is : goal.returns-then-decides-clause-is
returns-then-decides-clause-is g c =
    decided c.args.predicate.now.some c.args.predicate.now.negated (IsAs (AnswersOf (g.H.Hosts.called c.args.hosts.now) (g.H.Hosts.accepts c.args.hosts.now)) c.args.predicate.now.asked) (texts_of c.args.text.now c.args.predicate.now.capture c.args.captures.now) (capture_text c.args.text.now (get_or c.args.captures.now c.loop-capture.capture-index none)) c.in_ok-is.is' (text_named c.args.text.now c.args.predicate.now.capture c.args.captures.now c.loop-capture.capture-index none c.loop-capture-test.true (sym c.is_named.ensures ∙ c.if-not-is_named.false)) c.in_ok-is.ensures.is (c.decides.ensures.yes c.if-decides.true)

pub loop-capture-preserved : goal.loop-capture-preserved
loop-capture-preserved g c = record {
  matcher = c.is_of_node.ensures.matcher;
  left_open = subst (λ (l : List Bytes). AllLeaveOpen c.args.predicate.now.some c.args.predicate.now.negated (IsAs (AnswersOf (g.H.Hosts.called c.args.hosts.now) (g.H.Hosts.accepts c.args.hosts.now)) c.args.predicate.now.asked) l) (sym (texts_one c.args.text.now c.args.predicate.now.capture c.args.captures.now c.loop-capture.capture-index none c.loop-capture-test.true (sym c.is_named.ensures ∙ c.if-not-is_named.false)))
      (open_more c.args.predicate.now.some c.args.predicate.now.negated (IsAs (AnswersOf (g.H.Hosts.called c.args.hosts.now) (g.H.Hosts.accepts c.args.hosts.now)) c.args.predicate.now.asked) (texts_of c.args.text.now c.args.predicate.now.capture (take c.loop-capture.capture-index c.args.captures.now)) (capture_text c.args.text.now (get_or c.args.captures.now c.loop-capture.capture-index none)) c.in_ok-is.is' c.in_ok-is.ensures.is (c.decides.ensures.no c.if-decides.false) c.loop-capture.invariant.left_open);
}

pub returns-clause-is : goal.returns-clause-is
returns-clause-is g c =
    ended c.args.predicate.now.some c.args.predicate.now.negated (IsAs (AnswersOf (g.H.Hosts.called c.args.hosts.now) (g.H.Hosts.accepts c.args.hosts.now)) c.args.predicate.now.asked) (texts_of c.args.text.now c.args.predicate.now.capture c.args.captures.now)
    (subst (λ (l : List Capture). AllLeaveOpen c.args.predicate.now.some c.args.predicate.now.negated (IsAs (AnswersOf (g.H.Hosts.called c.args.hosts.now) (g.H.Hosts.accepts c.args.hosts.now)) c.args.predicate.now.asked) (texts_of c.args.text.now c.args.predicate.now.capture l)) (take_all c.loop-capture.capture-index c.args.captures.now c.loop-capture-test.false) c.loop-capture.invariant.left_open)
