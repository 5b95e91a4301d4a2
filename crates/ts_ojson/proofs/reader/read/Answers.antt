use Rattle.std.proofs.Common.{ℕ, List, sym, subst}
use Rattle.std.specs.Prelude.{IfOk, IfErr}
use Rattle.std.specs.Str.{IsValidUpTo}
use Rattle.ts_ojson.specs.declared.fault.OFault.TheVariants.{Utf8}
use Rattle.ts_ojson.specs.Reads.{Reads, IsFault}
use Rattle.ts_ojson.proofs.CodeLemmas.{complete_is, exact_is, one_or_memory}
use Rattle.ts_ojson.proofs.reader.read.Goals as goal

pub returns-in-Ok-clause-complete : goal.returns-in-Ok-clause-complete
returns-in-Ok-clause-complete c =
    let r = c.read_text.result in
    let same = c.in-Ok.ensures.cases.0 in
    complete_is r c.args.bytes.now (subst (λ (w : List ℕ). IfErr r (λ e. IsFault e w)) same c.read_text.ensures.refused)

pub returns-in-Ok-clause-exact : goal.returns-in-Ok-clause-exact
returns-in-Ok-clause-exact c f m g =
    let r = c.read_text.result in
    let same = c.in-Ok.ensures.cases.0 in
    exact_is r c.args.bytes.now (subst (λ (w : List ℕ). IfOk r (λ v. Reads v w)) same c.read_text.ensures.ok) (subst (λ (w : List ℕ). IfErr r (λ e. IsFault e w)) same c.read_text.ensures.refused) f m g

pub returns-in-Err-clause-complete : goal.returns-in-Err-clause-complete
returns-in-Err-clause-complete c m v x = c.in-Err.ensures.cases.0 x.utf8

pub returns-in-Err-clause-exact : goal.returns-in-Err-clause-exact
returns-in-Err-clause-exact c f m g =
    let w = c.args.bytes.now in
    one_or_memory (Utf8 c.valid_up_to.result) f w (subst (IsValidUpTo w) (sym c.valid_up_to.ensures) c.in-Err.ensures.cases.1) m g
