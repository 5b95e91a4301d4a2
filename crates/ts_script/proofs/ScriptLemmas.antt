-- A script asks for one thing, or has one first fault.
use Rattle.std.proofs.Common.{◌≡◌, ◌∙◌, sym, ap, refl, subst, ℕ, suc, ◌<◌, ◌≤◌, ◌≢◌, Result, Ok, Err, IfErr, List, [], ◌∷◌, ◌++◌, Option, Some, None, length, slice_get, arith}
use Rattle.ts_base.specs.Bytes.{Bytes}
use Rattle.ts_script.specs.declared.fault.SFault.{SFault}
use Rattle.ts_script.specs.declared.fault.SFault.TheVariants as fault
use Rattle.ts_script.specs.declared.plan.Plan.{Plan}
use Rattle.ts_script.specs.declared.plan.ScriptStep.{ScriptStep}
use Rattle.ts_script.specs.declared.plan.Source.{Source}
use Rattle.ts_script.specs.declared.said.Said.{Said}
use Rattle.ts_script.specs.Lines.{AreLines, IsBlankLine}
use Rattle.ts_script.specs.Said.{Says}
use Rattle.ts_script.specs.Rules.{StandsRight, WithinLimits, Asks, sources, queries, steps_of, client_count}
use Rattle.ts_script.specs.Script.{Follows, blank, says, FailsAt, no_line, no_order, over, Reads, at_end, next, FailsIn, here, later, IsScript, IsFault, too_large, in_line}
use Rattle.ts_script.proofs.LineLemmas.{one_list}
use Rattle.ts_script.proofs.SaidLemmas.{one_said}

-- ---- one line

follows_once : (before : List Said) (line : Bytes) (a b : List Said) → Follows before line a → Follows before line b → a ≡ b
follows_once before line a b (blank p) (blank q) = refl
follows_once before line a b (blank p) (says filled q o w) = absurd (filled p)
follows_once before line a b (says filled p o w) (blank q) = absurd (filled q)
follows_once before line a b (says {said = s} filled p o w) (says {said = t} nos q os ws) = ap (λ (x : Said). before ++ x ∷ []) (one_said line s t p q)

fails_once : (before : List Said) (line : Bytes) (n : ℕ) (f g : SFault) → FailsAt before line n f → FailsAt before line n g → f ≡ g
fails_once before line n f g (no_line filled p) (no_line nos q) = refl
fails_once before line n f g (no_line filled p) (no_order {said = t} nos q o) = absurd (p t q)
fails_once before line n f g (no_line filled p) (over {said = t} nos q o w) = absurd (p t q)
fails_once before line n f g (no_order {said = s} filled p o) (no_line nos q) = absurd (q s p)
fails_once before line n f g (no_order filled p o) (no_order nos q os) = refl
fails_once before line n f g (no_order {said = s} filled p o) (over {said = t} nos q os w) =
    absurd (o (subst (StandsRight before) (sym (one_said line s t p q)) os))
fails_once before line n f g (over {said = s} filled p o w) (no_line nos q) = absurd (q s p)
fails_once before line n f g (over {said = s} filled p o w) (no_order {said = t} nos q os) =
    absurd (os (subst (StandsRight before) (one_said line s t p q) o))
fails_once before line n f g (over filled p o w) (over nos q os ws) = refl

not_both : (before : List Said) (line : Bytes) (n : ℕ) (f : SFault) (after : List Said) → FailsAt before line n f → Follows before line after → ⊥
not_both before line n f after (no_line filled p) (blank q) = filled q
not_both before line n f after (no_line filled p) (says {said = t} nos q o w) = p t q
not_both before line n f after (no_order filled p o) (blank q) = filled q
not_both before line n f after (no_order {said = s} filled p o) (says {said = t} nos q os w) = o (subst (StandsRight before) (sym (one_said line s t p q)) os)
not_both before line n f after (over filled p o w) (blank q) = filled q
not_both before line n f after (over {said = s} filled p o w) (says {said = t} nos q os ws) = w (subst (WithinLimits before) (sym (one_said line s t p q)) ws)

-- ---- all lines

reads_once : (before : List Said) (lines : List Bytes) (a b : List Said) → Reads before lines a → Reads before lines b → a ≡ b
reads_once before [] a b at_end at_end = refl
reads_once before (line ∷ lines) a b (next {mid = m} p ps) (next {mid = k} q qs) =
    reads_once m lines a b ps (subst (λ (x : List Said). Reads x lines b) (follows_once before line k m q p) qs)

faults_once : (before : List Said) (n : ℕ) (lines : List Bytes) (f g : SFault) → FailsIn before n lines f → FailsIn before n lines g → f ≡ g
faults_once before n [] f g p q = elim p [ ]
faults_once before n (line ∷ lines) f g (here p) (here q) = fails_once before line n f g p q
faults_once before n (line ∷ lines) f g (here p) (later {mid = k} q qs) = absurd (not_both before line n f k p q)
faults_once before n (line ∷ lines) f g (later {mid = m} p ps) (here q) = absurd (not_both before line n g m q p)
faults_once before n (line ∷ lines) f g (later {mid = m} p ps) (later {mid = k} q qs) =
    faults_once m (suc n) lines f g ps (subst (λ (x : List Said). FailsIn x (suc n) lines g) (follows_once before line k m q p) qs)

fault_or_read : (before : List Said) (n : ℕ) (lines : List Bytes) (f : SFault) (a : List Said) → FailsIn before n lines f → Reads before lines a → ⊥
fault_or_read before n [] f a p q = elim p [ ]
fault_or_read before n (line ∷ lines) f a (here p) (next {mid = k} q qs) = not_both before line n f k p q
fault_or_read before n (line ∷ lines) f a (later {mid = m} p ps) (next {mid = k} q qs) =
    fault_or_read m (suc n) lines f a ps (subst (λ (x : List Said). Reads x lines a) (follows_once before line k m q p) qs)

-- ---- plans

-- lists of one length with the same at each place
same_lists : {X : Type 0} (xs ys : List X) → length xs ≡ length ys → ((k : ℕ) → k < length xs → slice_get xs k ≡ slice_get ys k) → xs ≡ ys
same_lists [] [] l h = refl
same_lists [] (y ∷ ys) l h = absurd (let f : ⊥ = omega (arith, l) in f)
same_lists (x ∷ xs) [] l h = absurd (let f : ⊥ = omega (arith, l) in f)
same_lists {X = X} (x ∷ xs) (y ∷ ys) l h =
    let first : Some x ≡ Some y = h 0 (omega arith) in
    let rest : xs ≡ ys = same_lists xs ys (omega (arith, l)) (λ k lt. h (suc k) (omega arith)) in
    let e : x ∷ xs ≡ y ∷ ys = cc in e

abbrev made : List Source → List Bytes → List (List ScriptStep) → Plan
made documents loaded clients = record { documents = documents; queries = loaded; clients = clients }

pub one_plan : (said : List Said) (p q : Plan) → Asks said p → Asks said q → p ≡ q
one_plan said p q a b =
    let documents : p.documents ≡ q.documents = a.documents ∙ sym b.documents in
    let loaded : p.queries ≡ q.queries = a.loaded ∙ sym b.loaded in
    let clients : p.clients ≡ q.clients =
    same_lists p.clients q.clients (a.clients ∙ sym b.clients)
    (λ k lt. a.of_each k (omega (arith, a.clients)) ∙ sym (b.of_each k (omega (arith, a.clients)))) in
    let e : made p.documents p.queries p.clients ≡ made q.documents q.queries q.clients = cc in e

-- ---- scripts

pub one_script : (bytes : Bytes) (p q : Plan) → IsScript bytes p → IsScript bytes q → p ≡ q
one_script bytes p q a b =
    let lines : b.lines ≡ a.lines = one_list bytes b.lines a.lines b.cut a.cut in
    let reads : Reads [] a.lines b.said = subst (λ (x : List Bytes). Reads [] x b.said) lines b.reads in
    let said : b.said ≡ a.said = reads_once [] a.lines b.said a.said reads a.reads in
    one_plan a.said p q a.asks (subst (λ (x : List Said). Asks x q) said b.asks)

pub one_fault : (bytes : Bytes) (f g : SFault) → IsFault bytes f → IsFault bytes g → f ≡ g
one_fault bytes f g (too_large p) (too_large q) = refl
one_fault bytes f g (too_large p) (in_line small cut q) = absurd (let e : ⊥ = omega (arith, p, small) in e)
one_fault bytes f g (in_line small cut p) (too_large q) = absurd (let e : ⊥ = omega (arith, q, small) in e)
one_fault bytes f g (in_line {lines = ls} small cut p) (in_line {lines = ms} tiny cuts q) =
    faults_once [] 1 ls f g p (subst (λ (x : List Bytes). FailsIn [] 1 x g) (one_list bytes ms ls cuts cut) q)

pub refused : (bytes : Bytes) (f : SFault) (plan : Plan) → IsFault bytes f → IsScript bytes plan → ⊥
refused bytes f plan (too_large p) script = let small = script.small in let e : ⊥ = omega (arith, p, small) in e
refused bytes f plan (in_line {lines = ls} small cut p) script =
    fault_or_read [] 1 ls f script.said p
    (subst (λ (x : List Bytes). Reads [] x script.said) (one_list bytes script.lines ls script.cut cut) script.reads)

-- ---- what the laws tell of an answer

pub complete_of : (bytes : Bytes) (r : Result Plan SFault) → IfErr r (λ e. e ≢ fault.Memory → IsFault bytes e)
    → IfErr r (λ e. e ≢ fault.Memory → (plan : Plan) → IsScript bytes plan → ⊥)
complete_of bytes (Ok plan) h = tt
complete_of bytes (Err e) h = λ other plan script. refused bytes e plan (h other) script
