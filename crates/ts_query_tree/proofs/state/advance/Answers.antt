use Rattle.std.proofs.Common.{◌≡◌, ◌&&◌, true, false, nat_le, length, Option, sym, ap, subst, ◌∙◌}
use Rattle.ts_query_tree.specs.declared.level.Level.{Level}
use Rattle.ts_query_tree.specs.Signs.{IsWithin}
use Rattle.ts_query_tree.specs.Reads.{most_open}
use Rattle.ts_query_tree.specs.Machine.{Follows, next, is_opening}
use Rattle.ts_query_tree.proofs.StateLemmas.{stops_strange, stops_nameless, stops_cut, stops_misplaced, stops_deep, goes, deep_true, deep_false, later}
use Rattle.ts_query_tree.proofs.state.advance.Goals as goal

pub returns-in-Strange : goal.returns-in-Strange
returns-in-Strange c =
    stops_strange c.args.text.now c.args.state c.requires.state c.args.at c.requires.gap c.requires.more (sym c.in_ok-sign_at.ensures.value ∙ c.in-Strange.is)

pub returns-in-Some : goal.returns-in-Some
returns-in-Some c =
    let w = c.args.text.now in
    let s = c.args.state in
    let ends = subst (IsWithin w c.args.at) c.in-Cut.is c.in_ok-sign_at.ensures.within in
    stops_nameless w s c.requires.state c.args.at c.requires.gap c.in-Cut.sign c.in-Cut.place c.in-Some.field-0 c.take.new.outer (sym c.in_ok-sign_at.ensures.value ∙ c.in-Cut.is) ends.1
    (subst (λ (o : Option Level). Follows (next s.level s.outer c.in-Cut.sign) o c.take.new.outer) c.in-Some.is c.in_ok-take-in-Cut.ensures)

pub returns-in-Cut : goal.returns-in-Cut
returns-in-Cut c =
    let w = c.args.text.now in
    let s = c.args.state in
    stops_cut w s c.requires.state c.args.at c.requires.gap c.in-Cut.sign c.in-Cut.place c.take.new.outer c.requires.more (sym c.in_ok-sign_at.ensures.value ∙ c.in-Cut.is)
    (subst (λ (o : Option Level). Follows (next s.level s.outer c.in-Cut.sign) o c.take.new.outer) c.in-None.is c.in_ok-take-in-Cut.ensures)

pub returns-in-Some-2 : goal.returns-in-Some-2
returns-in-Some-2 c =
    let w = c.args.text.now in
    let s = c.args.state in
    let deep : (is_opening c.in-Sees.sign && nat_le most_open (length s.outer)) ≡ true =
    ap (λ n. is_opening c.in-Sees.sign && nat_le most_open n) (sym c.len-depth.ensures) ∙ sym c.is_too_deep-too_deep.ensures ∙ c.if-too_deep.true in
    let d = deep_true (is_opening c.in-Sees.sign) (length s.outer) deep in
    stops_deep w s c.requires.state c.args.at c.requires.gap c.in-Sees.sign c.in-Sees.end c.in-Some-2.field-0 c.take-in-Sees.new.outer c.requires.more (sym c.in_ok-sign_at.ensures.value ∙ c.in-Sees.is)
    (subst (λ (o : Option Level). Follows (next s.level s.outer c.in-Sees.sign) o c.take-in-Sees.new.outer) c.in-Some-2.is c.in_ok-take-in-Sees.ensures) d.0 d.1

pub returns-in-Some-2-2 : goal.returns-in-Some-2-2
returns-in-Some-2-2 c =
    let w = c.args.text.now in
    let s = c.args.state in
    let ends = subst (IsWithin w c.args.at) c.in-Sees.is c.in_ok-sign_at.ensures.within in
    let shallow : (is_opening c.in-Sees.sign && nat_le most_open (length s.outer)) ≡ false =
    ap (λ n. is_opening c.in-Sees.sign && nat_le most_open n) (sym c.len-depth.ensures) ∙ sym c.is_too_deep-too_deep.ensures ∙ c.if-too_deep.false in (
      goes w s c.requires.state c.args.at c.requires.gap c.in-Sees.sign c.in-Sees.end c.in-Some-2.field-0 c.take-in-Sees.new.outer (sym c.in_ok-sign_at.ensures.value ∙ c.in-Sees.is) ends.1
          (subst (λ (o : Option Level). Follows (next s.level s.outer c.in-Sees.sign) o c.take-in-Sees.new.outer) c.in-Some-2.is c.in_ok-take-in-Sees.ensures)
          (deep_false (is_opening c.in-Sees.sign) (length s.outer) shallow),
      later w s.at c.args.at c.in-Sees.end c.requires.gap ends.0,
    )

pub returns : goal.returns
returns c =
    let w = c.args.text.now in
    let s = c.args.state in
    stops_misplaced w s c.requires.state c.args.at c.requires.gap c.in-Sees.sign c.in-Sees.end c.take-in-Sees.new.outer c.requires.more (sym c.in_ok-sign_at.ensures.value ∙ c.in-Sees.is)
    (subst (λ (o : Option Level). Follows (next s.level s.outer c.in-Sees.sign) o c.take-in-Sees.new.outer) c.in-None-2.is c.in_ok-take-in-Sees.ensures)
