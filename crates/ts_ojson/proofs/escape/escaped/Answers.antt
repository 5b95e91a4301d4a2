use Rattle.std.proofs.Common.{◌≡◌, ◌++◌, ◌<◌, get_or, length, Option, Some, None, ap, subst, ◌∙◌, arith}
use Rattle.std.specs.Prelude.{IfSome}
use Rattle.std.specs.Char.{encode_utf8}
use Rattle.ts_ojson.specs.declared.escape.Escape.TheVariants.{Plain}
use Rattle.ts_ojson.specs.declared.escape.Next.{Next}
use Rattle.ts_ojson.specs.declared.escape.Next.TheVariants.{More, Character}
use Rattle.ts_ojson.specs.Strings.{IsGoing, piece_of}
use Rattle.ts_ojson.proofs.PlaceLemmas.{after_ascii, piece_on, piece_stuck}
use Rattle.ts_ojson.proofs.escape.escaped.Goals as goal

pub returns-in-Some-Character-clause-boundary : goal.returns-in-Some-Character-clause-boundary
returns-in-Some-Character-clause-boundary c =
    let w = c.args.text.now in
    let at = c.loop-more.at in
    let is : c.read_in.result ≡ Some (Character c.in-Some-Character.character) = grind arith in
    let lt : at < length w = subst (λ (o : Option Next). IfSome o (λ n. at < length w)) is c.read_in.ensures.within in
    let low : get_or w at 0 < 128 = subst (λ (o : Option Next). IfSome o (λ n. get_or w at 0 < 128)) is c.read_in.ensures.ascii in
    after_ascii w at c.utf8.text lt low

pub returns-in-Some-Character-clause-ok : goal.returns-in-Some-Character-clause-ok
returns-in-Some-Character-clause-ok c s r k h =
    let w = c.args.text.now in
    let at = c.loop-more.at in
    let is : c.read_in.result ≡ Some (Character c.in-Some-Character.character) = grind arith in
    let lt : at < length w = subst (λ (o : Option Next). IfSome o (λ n. at < length w)) is c.read_in.ensures.within in
    piece_on w at c.loop-more.escape Plain s (s ++ encode_utf8 c.in-Some-Character.character) r k lt (c.read_in.ensures.piece lt s ∙ ap (piece_of s) is) (c.loop-more.invariant.reaches s r k h)

pub returns-in-None-clause-err : goal.returns-in-None-clause-err
returns-in-None-clause-err c s r k h =
    let is : c.read_in.result ≡ None = grind arith in
    piece_stuck c.args.text.now c.loop-more.at c.loop-more.escape s r k (λ lt. c.read_in.ensures.piece lt s ∙ ap (piece_of s) is) (c.loop-more.invariant.reaches s r k h)

pub loop-more-preserved : goal.loop-more-preserved
loop-more-preserved c =
    let w = c.args.text.now in
    let at = c.loop-more.at in
    let e = c.in-Some-More.more in
    let is : c.read_in.result ≡ Some (More e) = grind arith in
    let lt : at < length w = subst (λ (o : Option Next). IfSome o (λ n. at < length w)) is c.read_in.ensures.within in
    record {
      within = (omega (arith, c.loop-more.invariant.within.0), omega (arith, lt));
      inside = subst (λ (o : Option Next). IfSome o IsGoing) is c.read_in.ensures.going;
      reaches = λ s r k h. piece_on w at c.loop-more.escape e s s r k lt (c.read_in.ensures.piece lt s ∙ ap (piece_of s) is) (c.loop-more.invariant.reaches s r k h);
    }
