use Rattle.std.proofs.Common.{◌≡◌, ◌+◌, ◌∷◌, Some, true, false, arith}
use Rattle.std.proofs.lemmas.Result.{err_from_is_err_and}
use Rattle.ts_ojson.specs.declared.class.Class.TheVariants.{Quote, Colon}
use Rattle.ts_ojson.specs.Frames as frame
use Rattle.ts_ojson.specs.Roles as role
use Rattle.ts_ojson.specs.Gathered.{has_name}
use Rattle.ts_ojson.specs.Places.{class_there}
use Rattle.ts_ojson.proofs.CodeLemmas.{claim_taken, claim_made}
use Rattle.ts_ojson.proofs.PlaceLemmas.{after_class, named_quote, name_taken, name_new, pass_colon, colon_on, colon_stuck, pass_value, starts_value}
use Rattle.ts_ojson.proofs.tree.name.Goals as goal

pub string-requires-clause-boundary : goal.string-requires-clause-boundary
string-requires-clause-boundary c =
    let is : class_there c.args.text.now c.args.at ≡ Some Quote = grind arith in
    after_class c.args.text.now c.args.at Quote c.utf8.text is (λ e. cc)

pub returns-in_err-name-clause-err : goal.returns-in_err-name-clause-err
returns-in_err-name-clause-err c =
    let is : class_there c.args.text.now c.args.at ≡ Some Quote = grind arith in
    let p = err_from_is_err_and c.from_residual.result c.from_residual.ensures.1 in
    rw (p.1, p.2) (λ k h. c.in_err-name.ensures.err (role.name c.args.at c.args.members) k (named_quote c.args.text.now c.args.at c.args.members k h is))

pub returns-in-None-clause-err : goal.returns-in-None-clause-err
returns-in-None-clause-err c k h =
    let w = c.args.text.now in
    let is : class_there w c.args.at ≡ Some Quote = grind arith in
    let e : has_name c.in_ok-name.name c.args.members ≡ true = claim_taken c.in_ok-claimed.field-0 c.in_ok-name.name c.args.members c.in-None.is c.in_ok-claimed.ensures in
    let s = c.in_ok-name.ensures in
    let on = s.ok (role.name c.args.at c.args.members) k (named_quote w c.args.at c.args.members k h is) in
    name_taken w c.in_ok-name.end c.args.at c.in_ok-name.name c.args.members k on s.quote e

pub returns-then-ne-2-clause-err : goal.returns-then-ne-2-clause-err
returns-then-ne-2-clause-err c k h =
    let w = c.args.text.now in
    let is : class_there w c.args.at ≡ Some Quote = grind arith in
    let e : has_name c.in_ok-name.name c.args.members ≡ false = (claim_made c.in_ok-claimed.field-0 c.in-Some.claimed c.in_ok-name.name c.args.members c.in-Some.is c.in_ok-claimed.ensures).0 in
    let s = c.in_ok-name.ensures in
    let ms = c.args.members in
    let on = s.ok (role.name c.args.at ms) k (named_quote w c.args.at ms k h is) in
    let fresh = name_new w c.in_ok-name.end c.args.at c.in_ok-name.name ms k on s.quote e in
    let blanks = c.blanks_end-colon.ensures in
    let colon = c.blanks_end-colon.result in
    let none : class_there w colon ≡ Some Colon → ⊥ = grind arith in
    colon_stuck w colon ms c.in_ok-name.name k blanks.stop none (pass_colon w (c.in_ok-name.end + 1) colon ms c.in_ok-name.name k blanks.within.0 blanks.blanks fresh)

pub returns-clause-ok : goal.returns-clause-ok
returns-clause-ok c k h =
    let w = c.args.text.now in
    let is : class_there w c.args.at ≡ Some Quote = grind arith in
    let e : has_name c.in_ok-name.name c.args.members ≡ false = (claim_made c.in_ok-claimed.field-0 c.in-Some.claimed c.in_ok-name.name c.args.members c.in-Some.is c.in_ok-claimed.ensures).0 in
    let s = c.in_ok-name.ensures in
    let ms = c.args.members in
    let n = c.in_ok-name.name in
    let on = s.ok (role.name c.args.at ms) k (named_quote w c.args.at ms k h is) in
    let fresh = name_new w c.in_ok-name.end c.args.at n ms k on s.quote e in
    let blanks = c.blanks_end-colon.ensures in
    let colon = c.blanks_end-colon.result in
    let there : class_there w colon ≡ Some Colon = grind arith in
    let value = colon_on w colon ms n k (pass_colon w (c.in_ok-name.end + 1) colon ms n k blanks.within.0 blanks.blanks fresh) there in
    let more = c.blanks_end.ensures in
    rw (claim_made c.in_ok-claimed.field-0 c.in-Some.claimed c.in_ok-name.name c.args.members c.in-Some.is c.in_ok-claimed.ensures).1 (starts_value w c.blanks_end.result (frame.object ms n ∷ k) more.stop (pass_value w (colon + 1) c.blanks_end.result (frame.object ms n ∷ k) more.within.0 more.blanks value))
