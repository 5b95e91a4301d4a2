-- What a whole file says, against what it spells.
use Rattle.std.proofs.Common.{◌≡◌, refl, sym, ◌∙◌, ap, subst, ℕ, zero, suc, ◌+◌, ◌-◌, ◌<◌, ◌≤◌, ◌⊎◌, inl, inr, Bool, true, false, cond, nat_eq, eqb, ◌||◌, ◌&&◌, List, [], ◌∷◌, ◌++◌, length, drop, get_or, Result, Ok, Err, append_assoc, arith}
use Rattle.std.specs.List.{starts_with}
use Rattle.std.proofs.lemmas.List.{append-nil, nil_from_length, get_or-drop}
use Rattle.std.proofs.lemmas.Bool.{eqb-true}
use Rattle.std.proofs.Common.{eq-eqb, ◌^◌}
use Rattle.std.proofs.lemmas.Slice.Eq.{starts_is}
use Rattle.ts_base.specs.Bytes.{Bytes}
use Rattle.ts_core.specs.declared.flat.FlatGrammar.{FlatGrammar}
use Rattle.ts_langfile.specs.declared.fault.LangFault.{LangFault}
use Rattle.ts_langfile.specs.declared.flaw.Flaw.{Flaw}
use Rattle.ts_langfile.specs.declared.flaw.Flaw.TheVariants as flaws
use Rattle.ts_core.specs.declared.limits.Unfit.{Unfit}
use Rattle.std.specs.Prelude.{IfOk, IfErr}
use Rattle.ts_core.specs.declared.flat.FlatRule.{FlatRule}
use Rattle.ts_core.specs.declared.flat.TokenDef.{TokenDef}
use Rattle.ts_core.specs.declared.symbol.Symbol.{Symbol}
use Rattle.std.proofs.Common.{slice_get, Some, All}
use Rattle.std.proofs.lemmas.List.Elements.{All-weaker}
use Rattle.std.proofs.lemmas.Option.{slice_get_within, get_or_from_slice_get}
use Rattle.spec_tables.specs.Fit.{Fit, IsCyclic, IsEmptyRule, IsFitToken, Derives, at_once, through, Alone, HasRule, positions, most_positions, rule_symbol}
use Rattle.ts_fit.specs.Misfits.{IsFirstPlace, IsBadRepetition, IsEmptyToken, AreFitRepetitions, IsFormedGrammar, Misfits, symbol_of_token}
use Rattle.ts_fit.specs.Misfits as misfits
use Rattle.ts_langfile.specs.Faults.{IsFault}
use Rattle.ts_langfile.specs.Reader.{SeenBytes}
use Rattle.ts_langfile.specs.Spelling.{magic, number16, new_version, old_version, fields, file, spelling}
use Rattle.ts_langfile.specs.Parts.{number16_at}
use Rattle.ts_langfile.specs.Reading.{judged_at}
use Rattle.ts_langfile.specs.Verdict.{ReturnsVerdict, fault_of, ended, of_version, verdict}
use Rattle.ts_langfile.specs.Right.{Right, IsVersion, Reads}
use Rattle.ts_langfile.proofs.LawLemmas.{AreBytes, Took, number16_law}
use Rattle.ts_langfile.proofs.FormedLemmas.{right_formed}
use Rattle.ts_langfile.proofs.WholeLaws.{judged_takes, judged_again}

abbrev says : FlatGrammar → Result FlatGrammar LangFault
says f = Ok f

same_grammar : (f g : FlatGrammar) → says f ≡ says g → f ≡ g
same_grammar f g e = cc

chosen : (b : Bool) (x : Result FlatGrammar LangFault) (e : LangFault) (f : FlatGrammar) → cond b x (Err e) ≡ Ok f → (b ≡ true) × (x ≡ Ok f)
chosen true x e f h = (refl, h)
chosen false x e f h = absurd cc

or_true : (a b : Bool) → (a || b) ≡ true → (a ≡ true) ⊎ (b ≡ true)
or_true true b e = inl refl
or_true false b e = inr e

same_numbers : (a b : ℕ) → (nat_eq a b ≡ true → a ≡ b) × (a ≡ b → nat_eq a b ≡ true)
same_numbers a b = (eqb-true a b, eq-eqb a b)

begins : (w : Bytes) → starts_with nat_eq w magic ≡ true → w ≡ magic ++ drop 4 w
begins w e = let is = starts_is same_numbers w magic (starts_with nat_eq w magic) refl in is.0 e

version_is : (v : ℕ) → (nat_eq v old_version || nat_eq v new_version) ≡ true → IsVersion v
version_is v e = elim (or_true (nat_eq v old_version) (nat_eq v new_version) e) [
  | inl h ↦ inl (eqb-true _ _ h)
  | inr h ↦ inr (eqb-true _ _ h)
]

is_version : (v : ℕ) → IsVersion v → (nat_eq v old_version || nat_eq v new_version) ≡ true
is_version v (inl e) = rw e refl
is_version v (inr e) = rw e refl

ended_takes : (w : Bytes) (read : SeenBytes FlatGrammar) (f : FlatGrammar) → ended w read ≡ Ok f → read ≡ Ok (f, [])
unfolding ended
ended_takes w (Ok x) f e =
    let c = chosen (nat_eq (length x.1) 0) (Ok x.0) (LangFault.Long (length w - length x.1)) f e in
    let nothing : x.1 ≡ [] = nil_from_length x.1 (eqb-true _ _ c.0) in
    let same : x.0 ≡ f = same_grammar x.0 f c.1 in
    rw (same, nothing) refl
ended_takes w (Err flaw) f e = absurd cc

version_takes : (w : Bytes) (start : Bytes) (f : FlatGrammar) (read : SeenBytes ℕ) → number16_at start ≡ read → AreBytes start → of_version w read ≡ Ok f
    → (v : ℕ) × IsVersion v × (start ≡ number16 v ++ (fields v f ++ [])) × Right v f
unfolding of_version
version_takes w start f (Ok x) is are e =
    let c = chosen (nat_eq x.0 old_version || nat_eq x.0 new_version) (ended w (judged_at x.0 x.1)) (LangFault.Version x.0) f e in
    let one = number16_law.takes start x.0 x.1 are is in
    let two = judged_takes x.0 x.1 f [] one.0.behind (ended_takes w (judged_at x.0 x.1) f c.1) in
    (x.0, version_is x.0 c.0, one.0.parts ∙ ap (λ (b : Bytes). number16 x.0 ++ b) two.0, two.1)
version_takes w start f (Err flaw) is are e = absurd cc

bytes_from : (n : ℕ) (w : Bytes) → AreBytes w → AreBytes (drop n w)
bytes_from n w are i = rw get_or-drop (are (n + i))

pub verdict_takes : (w : Bytes) (f : FlatGrammar) → AreBytes w → verdict w ≡ Ok f → Reads f w
unfolding verdict
verdict_takes w f are e =
    let c = chosen (starts_with nat_eq w magic) (of_version w (number16_at (drop 4 w))) LangFault.Magic f e in
    let v = version_takes w (drop 4 w) f (number16_at (drop 4 w)) refl (bytes_from 4 w are) c.1 in
    record { version = v.0; known = v.1; spelled = begins w c.0 ∙ ap (λ (b : Bytes). magic ++ b) v.2; right = v.3 }

version_below : (v : ℕ) → IsVersion v → v < 2 ^ 16
version_below v (inl e) = rw e (omega arith)
version_below v (inr e) = rw e (omega arith)

pub verdict_again : (w : Bytes) (f : FlatGrammar) → Reads f w → verdict w ≡ Ok f
unfolding verdict of_version ended
verdict_again w f reads =
    let rest : Bytes = number16 reads.version ++ (fields reads.version f ++ []) in
    let below : reads.version < 2 ^ 16 = version_below reads.version reads.known in
    let one : number16_at rest ≡ Ok (reads.version, fields reads.version f ++ []) = number16_law.again reads.version (fields reads.version f ++ []) below in
    let two : judged_at reads.version (fields reads.version f ++ []) ≡ Ok (f, []) = judged_again reads.version f [] reads.right in
    let whole : verdict (magic ++ rest) ≡ Ok f = rw (one, is_version reads.version reads.known, two) refl in
    ap verdict reads.spelled ∙ whole

-- ---- laws

pub one_grammar : (f g : FlatGrammar) (w : Bytes) → Reads f w → Reads g w → f ≡ g
one_grammar f g w one two = same_grammar f g (sym (verdict_again w f one) ∙ verdict_again w g two)

pub two_spellings : (f : FlatGrammar) (w : Bytes) → Reads f w → (w ≡ spelling f) ⊎ ((w ≡ file old_version f) × (f.supertypes ≡ []))
two_spellings f w reads = by reads.version reads.known reads.spelled reads.right
  where
    by : (v : ℕ) → IsVersion v → w ≡ file v f → Right v f → (w ≡ spelling f) ⊎ ((w ≡ file old_version f) × (f.supertypes ≡ []))
    by v (inl e) spelled right =
        let there : Right old_version f = subst (λ (v : ℕ). Right v f) e right in
        inr (spelled ∙ ap (λ (v : ℕ). file v f) e, there.supertypes)
    by v (inr e) spelled right = inl (spelled ∙ ap (λ (v : ℕ). file v f) e)

pub read_again : (f : FlatGrammar) → Right new_version f → Reads f (spelling f)
read_again f right = record { version = new_version; known = inr refl; spelled = refl; right = right }

-- ---- faults

abbrev faulty : LangFault → Result FlatGrammar LangFault
faulty e = Err e

same_fault : (d e : LangFault) → faulty d ≡ faulty e → d ≡ e
same_fault d e h = cc

refused : (b : Bool) (x : Result FlatGrammar LangFault) (d e : LangFault) → cond b x (Err d) ≡ Err e → (x ≡ Err e) ⊎ (d ≡ e)
refused true x d e h = inl h
refused false x d e h = inr (same_fault d e h)

no_flaw : (w : Bytes) (flaw : Flaw) (u : Unfit) → fault_of w flaw ≡ LangFault.Misfit u → ⊥
no_flaw w (flaws.Short left) u e = absurd cc
no_flaw w (flaws.Field left) u e = absurd cc

no_end : (w : Bytes) (read : SeenBytes FlatGrammar) (u : Unfit) → ended w read ≡ Err (LangFault.Misfit u) → ⊥
unfolding ended
no_end w (Ok x) u e = elim (refused (nat_eq (length x.1) 0) (Ok x.0) (LangFault.Long (length w - length x.1)) (LangFault.Misfit u) e) [
  | inl h ↦ absurd cc
  | inr h ↦ absurd cc
]
no_end w (Err flaw) u e = no_flaw w flaw u (same_fault (fault_of w flaw) (LangFault.Misfit u) e)

no_version : (w : Bytes) (read : SeenBytes ℕ) (u : Unfit) → of_version w read ≡ Err (LangFault.Misfit u) → ⊥
unfolding of_version
no_version w (Ok x) u e = elim (refused (nat_eq x.0 old_version || nat_eq x.0 new_version) (ended w (judged_at x.0 x.1)) (LangFault.Version x.0) (LangFault.Misfit u) e) [
  | inl h ↦ no_end w (judged_at x.0 x.1) u h
  | inr h ↦ absurd cc
]
no_version w (Err flaw) u e = no_flaw w flaw u (same_fault (fault_of w flaw) (LangFault.Misfit u) e)

no_misfit : (w : Bytes) (u : Unfit) → verdict w ≡ Err (LangFault.Misfit u) → ⊥
unfolding verdict
no_misfit w u e = elim (refused (starts_with nat_eq w magic) (of_version w (number16_at (drop 4 w))) LangFault.Magic (LangFault.Misfit u) e) [
  | inl h ↦ no_version w (number16_at (drop 4 w)) u h
  | inr h ↦ absurd cc
]

is_fault : (w : Bytes) (e : LangFault) → verdict w ≡ Err e → IsFault e w
is_fault w LangFault.Magic h = h
is_fault w (LangFault.Version n) h = h
is_fault w (LangFault.Short p) h = h
is_fault w (LangFault.Long p) h = h
is_fault w (LangFault.Field p) h = h
is_fault w (LangFault.Misfit u) h = absurd (no_misfit w u h)
is_fault w LangFault.Memory h = tt

pub reads_from : (w : Bytes) (r : Result FlatGrammar LangFault) → AreBytes w → ReturnsVerdict r (verdict w) → IfOk r (λ f. Reads f w)
reads_from w (Ok f) are (inl e) = verdict_takes w f are (sym e)
reads_from w (Ok f) are (inr e) = absurd cc
reads_from w (Err e) are h = tt

pub formed_from : (w : Bytes) (r : Result FlatGrammar LangFault) → AreBytes w → ReturnsVerdict r (verdict w) → IfOk r (λ f. IsFormedGrammar f)
formed_from w (Ok f) are (inl e) = let reads = verdict_takes w f are (sym e) in right_formed reads.version f reads.right
formed_from w (Ok f) are (inr e) = absurd cc
formed_from w (Err e) are h = tt

pub fault_from : (w : Bytes) (r : Result FlatGrammar LangFault) → ReturnsVerdict r (verdict w) → IfErr r (λ e. IsFault e w)
fault_from w (Ok f) h = tt
fault_from w (Err e) (inl h) = is_fault w e (sym h)
fault_from w (Err e) (inr h) = subst (λ (e : LangFault). IsFault e w) (sym (same_fault e LangFault.Memory h)) tt

-- ---- one misfit

-- a fault of the fields is no misfit
pub fields_fault : (w : Bytes) (r : Result FlatGrammar LangFault) → ReturnsVerdict r (verdict w) → IfErr r (λ e. (cause : Unfit) → e ≡ LangFault.Misfit cause → ⊥)
fields_fault w (Ok f) says = tt
fields_fault w (Err e) (inl same) = λ cause is. no_misfit w cause (sym same ∙ ap (λ (x : LangFault). Err x) is)
fields_fault w (Err e) (inr same) = λ cause is. clash cause (sym (same_fault e LangFault.Memory same) ∙ is)
  where
    clash : (cause : Unfit) → LangFault.Memory ≡ LangFault.Misfit cause → ⊥
    clash cause e = cc

one_place : (P : ℕ → Type 0) (a b : ℕ) → IsFirstPlace P a → IsFirstPlace P b → a ≡ b
one_place P a b one two = let le = one.least b two.holds in let ge = two.least a one.holds in omega arith

not_bad : (f : FlatGrammar) (place : ℕ) → AreFitRepetitions f → IsBadRepetition f place → ⊥
not_bad f place are bad = bad.3 (are place bad.0 bad.1 bad.2)

pub one_misfit : (f : FlatGrammar) (u v : Unfit) → Misfits f u → Misfits f v → u ≡ v
one_misfit f u v (misfits.repetition p first) (misfits.repetition q second) = ap (λ (k : ℕ). Unfit.Repetition (rule_symbol f k)) (one_place (IsBadRepetition f) p q first second)
one_misfit f u v (misfits.repetition p first) (misfits.empty_token q are second) = absurd (not_bad f p are first.holds)
one_misfit f u v (misfits.repetition p first) (misfits.empty_rule q are tokens second) = absurd (not_bad f p are first.holds)
one_misfit f u v (misfits.repetition p first) (misfits.cyclic q are tokens rules second) = absurd (not_bad f p are first.holds)
one_misfit f u v (misfits.repetition p first) (misfits.too_many are tokens rules straight second) = absurd (not_bad f p are first.holds)
one_misfit f u v (misfits.empty_token p are first) (misfits.repetition q second) = absurd (not_bad f q are second.holds)
one_misfit f u v (misfits.empty_token p are first) (misfits.empty_token q are' second) = ap (λ (k : ℕ). Unfit.EmptyToken (symbol_of_token k)) (one_place (IsEmptyToken f) p q first second)
one_misfit f u v (misfits.empty_token p are first) (misfits.empty_rule q are' tokens second) = absurd (tokens p first.holds)
one_misfit f u v (misfits.empty_token p are first) (misfits.cyclic q are' tokens rules second) = absurd (tokens p first.holds)
one_misfit f u v (misfits.empty_token p are first) (misfits.too_many are' tokens rules straight second) = absurd (tokens p first.holds)
one_misfit f u v (misfits.empty_rule p are tokens first) (misfits.repetition q second) = absurd (not_bad f q are second.holds)
one_misfit f u v (misfits.empty_rule p are tokens first) (misfits.empty_token q are' second) = absurd (tokens q second.holds)
one_misfit f u v (misfits.empty_rule p are tokens first) (misfits.empty_rule q are' tokens' second) = ap (λ (k : ℕ). Unfit.EmptyRule (rule_symbol f k)) (one_place (IsEmptyRule f) p q first second)
one_misfit f u v (misfits.empty_rule p are tokens first) (misfits.cyclic q are' tokens' rules second) = absurd (rules p first.holds)
one_misfit f u v (misfits.empty_rule p are tokens first) (misfits.too_many are' tokens' rules straight second) = absurd (rules p first.holds)
one_misfit f u v (misfits.cyclic p are tokens rules first) (misfits.repetition q second) = absurd (not_bad f q are second.holds)
one_misfit f u v (misfits.cyclic p are tokens rules first) (misfits.empty_token q are' second) = absurd (tokens q second.holds)
one_misfit f u v (misfits.cyclic p are tokens rules first) (misfits.empty_rule q are' tokens' second) = absurd (rules q second.holds)
one_misfit f u v (misfits.cyclic p are tokens rules first) (misfits.cyclic q are' tokens' rules' second) = ap (λ (k : ℕ). Unfit.Cyclic (rule_symbol f k)) (one_place (IsCyclic f) p q first second)
one_misfit f u v (misfits.cyclic p are tokens rules first) (misfits.too_many are' tokens' rules' straight second) = absurd (straight p first.holds)
one_misfit f u v (misfits.too_many are tokens rules straight first) (misfits.repetition q second) = absurd (not_bad f q are second.holds)
one_misfit f u v (misfits.too_many are tokens rules straight first) (misfits.empty_token q are' second) = absurd (tokens q second.holds)
one_misfit f u v (misfits.too_many are tokens rules straight first) (misfits.empty_rule q are' tokens' second) = absurd (rules q second.holds)
one_misfit f u v (misfits.too_many are tokens rules straight first) (misfits.cyclic q are' tokens' rules' second) = absurd (straight q second.holds)
one_misfit f u v (misfits.too_many are tokens rules straight first) (misfits.too_many are' tokens' rules' straight' second) = refl

-- what is true of all elements is true of the one at a place
at_place : {X : Type 0} (P : X → Type 0) (xs : List X) (k : ℕ) (x : X) → All P xs → slice_get xs k ≡ Some x → P x
at_place P xs k x all at = subst P (get_or_from_slice_get xs k x x at) (all k x (slice_get_within xs k x at))

alone_from : (f : FlatGrammar) (a b : Symbol) → Derives f a b → (r : FlatRule) × HasRule f a r
alone_from f a b (at_once _ _ h) = (h.rule, h.has_rule)
alone_from f a b (through _ m _ h more) = (h.rule, h.has_rule)

place_is : (f : FlatGrammar) (j k : ℕ) → rule_symbol f j ≡ rule_symbol f k → k ≡ j
place_is f j k e = let n : suc (length f.tokens + j) ≡ suc (length f.tokens + k) = ap (λ (s : Symbol). s.0) e in omega arith

straight_at : (f : FlatGrammar) (p : ℕ) → Fit f → IsCyclic f p → ⊥
straight_at f p fit cycle =
    let from = alone_from f (rule_symbol f p) (rule_symbol f p) cycle in
    let rule = from.1 in
    let same : rule.0 ≡ p = place_is f p rule.0 rule.2 in
    let is_fit = fit.rules rule.0 from.0 rule.1 in
    is_fit.straight (subst (IsCyclic f) (sym same) cycle)

unfit : (f : FlatGrammar) (why : Unfit) → Misfits f why → Fit f → ⊥
unfit f why (misfits.repetition place h) fit = let bad = h.holds in bad.3 ((fit.rules place bad.0 bad.1).repetition bad.2)
unfit f why (misfits.empty_token place are h) fit = let empty = h.holds in (at_place (IsFitToken f) f.tokens place empty.0 fit.tokens empty.1).filled empty.2
unfit f why (misfits.empty_rule place are tokens h) fit = let empty = h.holds in (fit.rules place empty.0 empty.1).filled empty
unfit f why (misfits.cyclic place are tokens rules h) fit = straight_at f place fit h.holds
unfit f why (misfits.too_many are tokens rules straight none) fit =
    none (record { each = All-weaker (IsFitToken f) (λ (d : TokenDef). positions d.re ≤ most_positions) (λ d h. h.few) f.tokens fit.tokens; in_all = fit.few_positions })

-- ---- the whole answer

-- a fault of the fields, or a misfit
abbrev Told : LangFault → Bytes → Type 0
Told e w = (verdict w ≡ Err e) ⊎ ((u : Unfit) × (f : FlatGrammar) × (e ≡ LangFault.Misfit u) × (verdict w ≡ Ok f) × Misfits f u)

told : (e : LangFault) (w : Bytes) → (e ≡ LangFault.Memory → ⊥) → IsFault e w → Told e w
told LangFault.Magic w some h = inl h
told (LangFault.Version n) w some h = inl h
told (LangFault.Short p) w some h = inl h
told (LangFault.Long p) w some h = inl h
told (LangFault.Field p) w some h = inl h
told (LangFault.Misfit u) w some h = inr (u, h.0, refl, h.1, h.2)
told LangFault.Memory w some h = absurd (some refl)

apart : (f : FlatGrammar) (e : LangFault) → says f ≡ faulty e → ⊥
apart f e h = cc

pub not_read : (e : LangFault) (f : FlatGrammar) (w : Bytes) → (e ≡ LangFault.Memory → ⊥) → IsFault e w → Reads f w → Fit f → ⊥
not_read e f w some fault reads fit = elim (told e w some fault) [
  | inl h ↦ apart f e (sym (verdict_again w f reads) ∙ h)
  | inr h ↦ (let is : h.1 ≡ f = same_grammar h.1 f (sym h.3 ∙ verdict_again w f reads) in unfit f h.0 (subst (λ (f : FlatGrammar). Misfits f h.0) is h.4) fit)
]

pub one_fault : (e d : LangFault) (w : Bytes) → (e ≡ LangFault.Memory → ⊥) → (d ≡ LangFault.Memory → ⊥) → IsFault e w → IsFault d w → e ≡ d
one_fault e d w some other first second = by (told e w some first) (told d w other second)
  where
    by : Told e w → Told d w → e ≡ d
    by (inl h) (inl k) = same_fault e d (sym h ∙ k)
    by (inl h) (inr k) = absurd (apart k.1 e (sym k.3 ∙ h))
    by (inr h) (inl k) = absurd (apart h.1 d (sym h.3 ∙ k))
    by (inr h) (inr k) =
        let is : h.1 ≡ k.1 = same_grammar h.1 k.1 (sym h.3 ∙ k.3) in
        let there : Misfits k.1 h.0 = subst (λ (f : FlatGrammar). Misfits f h.0) is h.4 in
        h.2 ∙ ap LangFault.Misfit (one_misfit k.1 h.0 k.0 there k.4) ∙ sym k.2

memory_or : (e : LangFault) → (e ≡ LangFault.Memory) ⊎ (e ≡ LangFault.Memory → ⊥)
memory_or LangFault.Magic = inr (λ e. cc)
memory_or (LangFault.Version n) = inr (λ e. cc)
memory_or (LangFault.Short p) = inr (λ e. cc)
memory_or (LangFault.Long p) = inr (λ e. cc)
memory_or (LangFault.Field p) = inr (λ e. cc)
memory_or (LangFault.Misfit u) = inr (λ e. cc)
memory_or LangFault.Memory = inl refl

pub completes : (w : Bytes) (r : Result FlatGrammar LangFault) → IfOk r (λ f. Reads f w) → IfErr r (λ e. IsFault e w) → (f : FlatGrammar) → Reads f w → Fit f → (r ≡ Ok f) ⊎ (r ≡ Err LangFault.Memory)
completes w (Ok g) ok refused f reads fit = inl (ap says (one_grammar g f w ok reads))
completes w (Err e) ok refused f reads fit = elim (memory_or e) [
  | inl h ↦ inr (ap faulty h)
  | inr some ↦ absurd (not_read e f w some refused reads fit)
]

pub is_exact : (w : Bytes) (r : Result FlatGrammar LangFault) → IfOk r (λ f. Reads f w) → IfOk r (λ f. Fit f) → IfErr r (λ e. IsFault e w) → (e : LangFault) → (e ≡ LangFault.Memory → ⊥) → IsFault e w → (r ≡ Err e) ⊎ (r ≡ Err LangFault.Memory)
is_exact w (Ok g) ok fit refused e some fault = absurd (not_read e g w some fault ok fit)
is_exact w (Err d) ok fit refused e some fault = elim (memory_or d) [
  | inl h ↦ inr (ap faulty h)
  | inr other ↦ inl (ap faulty (one_fault d e w other some refused fault))
]
