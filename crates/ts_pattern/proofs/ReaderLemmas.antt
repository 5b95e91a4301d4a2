-- What is read of a source, from what its characters are.
use Rattle.std.proofs.Common.{◌≡◌, ◌≢◌, ◌⊎◌, ℕ, Bool, List, chars, Result, Ok, Err, IfOk, IfErr, IsErrAnd, refl, subst, inl, inr}
use Rattle.ts_core.specs.declared.re.Re.{Re}
use Rattle.ts_pattern.specs.declared.fault.PFault.{PFault}
use Rattle.ts_pattern.specs.declared.fault.PFault.TheVariants.{Memory}
use Rattle.ts_pattern.specs.declared.fault.PFault.TheVariants as fault
use Rattle.ts_pattern.specs.declared.outcome.Outcome.TheVariants as outcome
use Rattle.ts_pattern.specs.declared.sight.Flaw.{Flaw}
use Rattle.ts_pattern.specs.declared.sight.Flaw.TheVariants.{Syntax, Unsupported, EmptyClass, UnknownProperty}
use Rattle.ts_pattern.specs.Reads.{Reads, IsTree, Stops, IsFlawed, IsFault, IsOutcome, bytes_before, fault_of}
use Rattle.ts_pattern.proofs.LawLemmas.{fault_or_read, one_fault}

pub fault_is : (source : List ℕ) (ignore_case : Bool) (flaw : Flaw) (p : ℕ) → IsFlawed source ignore_case flaw p → IsFault source ignore_case (fault_of flaw p)
fault_is source ignore_case Syntax p g = g
fault_is source ignore_case Unsupported p g = g
fault_is source ignore_case EmptyClass p g = g
fault_is source ignore_case UnknownProperty p g = g

one_or_memory : (e f : PFault) (source : List ℕ) (ignore_case : Bool) → IsFault source ignore_case e → f ≢ Memory → IsFault source ignore_case f → (e ≡ f) ⊎ (e ≡ Memory)
one_or_memory Memory f source ignore_case h m g = inr refl
one_or_memory (fault.Syntax p) f source ignore_case h m g = inl (one_fault (fault.Syntax p) f source ignore_case (λ x. cc) m h g)
one_or_memory (fault.Unsupported p) f source ignore_case h m g = inl (one_fault (fault.Unsupported p) f source ignore_case (λ x. cc) m h g)
one_or_memory (fault.EmptyClass p) f source ignore_case h m g = inl (one_fault (fault.EmptyClass p) f source ignore_case (λ x. cc) m h g)
one_or_memory (fault.UnknownProperty p) f source ignore_case h m g = inl (one_fault (fault.UnknownProperty p) f source ignore_case (λ x. cc) m h g)
one_or_memory (fault.Limit p) f source ignore_case h m g = inl (one_fault (fault.Limit p) f source ignore_case (λ x. cc) m h g)

pub complete_is : (r : Result Re PFault) (source : List ℕ) (ignore_case : Bool) → IfErr r (λ e. IsFault source ignore_case e) →
    IfErr r (λ e. e ≢ Memory → (q : Re) → Reads source ignore_case q → ⊥)
complete_is (Ok q) source ignore_case g = g
complete_is (Err e) source ignore_case g = λ m q h. fault_or_read e q source ignore_case m g h

pub exact_is : (r : Result Re PFault) (source : List ℕ) (ignore_case : Bool) → IfOk r (λ q. Reads source ignore_case q) → IfErr r (λ e. IsFault source ignore_case e) →
    (f : PFault) → f ≢ Memory → IsFault source ignore_case f → IsErrAnd r (λ e. (e ≡ f) ⊎ (e ≡ Memory))
exact_is (Ok q) source ignore_case g h f m k = absurd (fault_or_read f q source ignore_case m k g)
exact_is (Err e) source ignore_case g h f m k = one_or_memory e f source ignore_case h m k

pub read_whole : (source w : List ℕ) (ignore_case : Bool) (r : Re) → w ≡ chars source → IsOutcome ignore_case w (outcome.Whole r) → Reads source ignore_case r
read_whole source w ignore_case r e g = (g.0, subst (λ (v : List ℕ). IsTree ignore_case v g.0) e g.1, g.2, g.3)

pub read_flaw : (source w : List ℕ) (ignore_case : Bool) (flaw : Flaw) (at p : ℕ) → w ≡ chars source → IsOutcome ignore_case w (outcome.Flawed flaw at) →
    p ≡ bytes_before (chars source) at → IsFault source ignore_case (fault_of flaw p)
read_flaw source w ignore_case flaw at p e g h = fault_is source ignore_case flaw p (at, subst (λ (v : List ℕ). Stops ignore_case v flaw at) e g, h)

pub read_limit : (source w : List ℕ) (ignore_case : Bool) (n : ℕ) → w ≡ chars source → IsOutcome ignore_case w (outcome.Over n) → IsFault source ignore_case (fault.Limit n)
read_limit source w ignore_case n e g = (g.0, subst (λ (v : List ℕ). IsTree ignore_case v g.0) e g.1, g.2)
