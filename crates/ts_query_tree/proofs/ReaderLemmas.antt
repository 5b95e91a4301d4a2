-- What is read of a text, and that no other answer is right.
use Rattle.std.proofs.Common.{◌≡◌, ◌≢◌, ◌⊎◌, List, Result, Ok, Err, IfOk, IfErr, IsErrAnd, refl, inl, inr}
use Rattle.ts_base.specs.Bytes.{Bytes}
use Rattle.ts_query_tree.specs.declared.fault.TreeFault.{TreeFault}
use Rattle.ts_query_tree.specs.declared.fault.TreeFault.TheVariants.{Memory}
use Rattle.ts_query_tree.specs.declared.fault.TreeFault.TheVariants as fault
use Rattle.ts_query_tree.specs.declared.tree.Part.{Part as Value}
use Rattle.ts_query_tree.specs.Reads.{Reads, IsFault}
use Rattle.ts_query_tree.proofs.LawLemmas.{one_fault, fault_or_read}

one_or_memory : (w : Bytes) (e f : TreeFault) → IsFault w e → f ≢ Memory → IsFault w f → (e ≡ f) ⊎ (e ≡ Memory)
one_or_memory w Memory f h m g = inr refl
one_or_memory w (fault.Syntax p) f h m g = inl (one_fault w (fault.Syntax p) f (λ x. cc) m h g)
one_or_memory w (fault.Deep p) f h m g = inl (one_fault w (fault.Deep p) f (λ x. cc) m h g)

pub complete_is : (w : Bytes) (r : Result (List Value) TreeFault) → IfErr r (λ e. IsFault w e) → IfErr r (λ e. e ≢ Memory → (x : List Value) → Reads w x → ⊥)
complete_is w (Ok x) g = g
complete_is w (Err e) g = λ m x h. fault_or_read w e x m g h

pub exact_is : (w : Bytes) (r : Result (List Value) TreeFault) → IfOk r (λ x. Reads w x) → IfErr r (λ e. IsFault w e) → (f : TreeFault) → f ≢ Memory → IsFault w f →
    IsErrAnd r (λ e. (e ≡ f) ⊎ (e ≡ Memory))
exact_is w (Ok x) g h f m k = absurd (fault_or_read w f x m k g)
exact_is w (Err e) g h f m k = one_or_memory w e f h m k
