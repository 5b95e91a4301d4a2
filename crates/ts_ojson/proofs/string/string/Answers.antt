use Rattle.std.proofs.Common.{◌≡◌, ◌++◌, [], Some, subst, arith}
use Rattle.std.proofs.lemmas.Result.{err_from_is_err_and}
use Rattle.std.specs.Prelude.{string_bytes}
use Rattle.std.specs.Char.{encode_utf8}
use Rattle.ts_ojson.specs.declared.escape.Escape.TheVariants.{Plain}
use Rattle.ts_ojson.specs.States.{text}
use Rattle.ts_ojson.specs.Places.{byte_there, between, Reaches}
use Rattle.ts_ojson.proofs.PlaceLemmas.{run_on, escape_on, plain_stuck}
use Rattle.ts_ojson.proofs.string.string.Goals as goal

pub loop-read-init : goal.loop-read-init
loop-read-init c =
    let w = c.args.text.now in
    let from = c.args.from in
    let run = c.plain_end-end.ensures in
    let same : [] ++ between w from c.plain_end-end.result ≡ string_bytes c.in_ok-read.read = grind arith in
    record {
      within = run.within;
      stop = run.stop;
      reaches = λ r k h. subst (λ s. Reaches w c.plain_end-end.result (text Plain s r) k) same (run_on w from c.plain_end-end.result [] r k run.within.0 run.within.1 run.plain h);
    }

pub returns-in_err-character-in-Some-eq92-clause-err : goal.returns-in_err-character-in-Some-eq92-clause-err
returns-in_err-character-in-Some-eq92-clause-err c =
    let w = c.args.text.now in
    let is : byte_there w c.loop-read.end ≡ Some 92 = grind arith in
    let p = err_from_is_err_and c.from_residual-in_err-character-in-Some-eq92.result c.from_residual-in_err-character-in-Some-eq92.ensures.1 in
    rw (p.1, p.2) (λ r k h. c.in_err-character-in-Some-eq92.ensures.err (string_bytes c.loop-read.read) r k (escape_on w c.loop-read.end (string_bytes c.loop-read.read) r k is (c.loop-read.invariant.reaches r k h)))

pub loop-read-preserved : goal.loop-read-preserved
loop-read-preserved c =
    let w = c.args.text.now in
    let at = c.loop-read.end in
    let s = string_bytes c.loop-read.read in
    let is : byte_there w at ≡ Some 92 = grind arith in
    let run = c.plain_end-end-in-Some-eq92.ensures in
    let end = c.plain_end-end-in-Some-eq92.result in
    let next = c.in_ok-character-in-Some-eq92.next in
    let t = s ++ encode_utf8 c.in_ok-character-in-Some-eq92.character in
    let same : t ++ between w next end ≡ string_bytes c.push_str.new.self = grind arith in
    let later = c.in_ok-character-in-Some-eq92.ensures.later in
    let i = c.loop-read.invariant in
    record {
      within = (omega (arith, later.0, run.within.0, i.within.0), run.within.1);
      stop = run.stop;
      reaches = λ r k h.
          let on = c.in_ok-character-in-Some-eq92.ensures.ok s r k (escape_on w at s r k is (i.reaches r k h)) in
          subst (λ y. Reaches w end (text Plain y r) k) same (run_on w next end t r k run.within.0 run.within.1 run.plain on);
    }

pub returns-in_default-clause-err : goal.returns-in_default-clause-err
returns-in_default-clause-err c r k h =
    let w = c.args.text.now in
    let at = c.loop-read.end in
    let no_quote : byte_there w at ≡ Some 34 → ⊥ = grind arith in
    let no_back : byte_there w at ≡ Some 92 → ⊥ = grind arith in
    plain_stuck w at (string_bytes c.loop-read.read) r k c.loop-read.invariant.stop no_quote no_back (c.loop-read.invariant.reaches r k h)
