-- A table of patterns that takes one more source, and the first pattern that can't be read.
use Rattle.std.proofs.Common.{◌≡◌, ◌∙◌, sym, ap, subst, refl, ℕ, ◌+◌, ◌<◌, ◌≤◌, ◌⊎◌, inl, inr, ⊎_elim, Bool, true, false, cond, List, [], ◌∷◌, ◌++◌, map, length, get_or, take, drop, Option, Some, None, Result, Ok, Err, IfOk, arith}
use Rattle.std.specs.List.{Contains}
use Rattle.std.specs.Str.{bytes_eq}
use Rattle.std.proofs.lemmas.List.{take_all}
use Rattle.std.proofs.lemmas.List.Elements.{Contains-push_cases, All-contains_itself}
use Rattle.indexmap.specs.IndexMap.{get}
use Rattle.ts_base.proofs.ByteLemmas.{same_bytes, bytes_same}
use Rattle.ts_base.specs.Bytes.{Bytes}
use Rattle.ts_core.specs.declared.re.Re.{Re}
use Rattle.ts_core.specs.declared.rule.Grammar.{Grammar}
use Rattle.ts_pattern.specs.declared.fault.PFault.{PFault}
use Rattle.ts_pattern.specs.declared.fault.PFault.TheVariants.{Memory}
use Rattle.ts_pattern.specs.Reads.{Reads, IsFault}
use Rattle.spec_tables.specs.Fit.{IsShort}
use Rattle.ts_rules.specs.Normal.{ArePatterns}
use Rattle.ts_rules.specs.FirstSights.{Not, Clear}
use Rattle.ts_rules.specs.Sights.{Source}
use Rattle.ts_tokens.specs.declared.placed.Placed.{Placed}
use Rattle.ts_tokens.specs.declared.fault.PatternFault.{PatternFault}
use Rattle.ts_tokens.specs.declared.fault.PatternFault.TheVariants as fault
use Rattle.ts_tokens.specs.declared.table.PatternTable.{PatternTable}
use Rattle.ts_tokens.specs.Patterns.{PlacedPattern, read_as, or_empty, meaning, placed_patterns, IsSound, WasRead, TakesIn, IsRefusal, IsUnreadable, IsFaultAt, IsPatternFault, AreShortSources}
use Rattle.ts_tokens.specs.Placed.{told_patterns, placed_told, source_told, name_told}
use Rattle.ts_tokens.proofs.FirstLemmas.{first_here, map_more}
use Rattle.ts_tokens.proofs.MemberLemmas.{map_in}
use Rattle.ts_tokens.proofs.PlacedLemmas.{placed_of}

some_same : {X : Type 0} (x y : X) → Some x ≡ Some y → x ≡ y
some_same x y e = cc

learnt : (old new : PatternTable) (s : Source) (r : Re) → Reads s.0 s.1 r → read_as new s ≡ Some r
    → ((q : Source) → (read_as new q ≡ read_as old q) ⊎ (q ≡ s)) → TakesIn old new s
learnt old new s r reads here others = record {
  keeps = λ q h. ⊎_elim (λ e. (h.0, e ∙ h.1)) (λ e. (r, ap (read_as new) e ∙ here)) (others q);
  has = (r, here);
  sound = λ sound q x e. ⊎_elim (λ same. sound q x (sym same ∙ e)) (λ is. subst (λ (y : Re). Reads q.0 q.1 y) (some_same r x (sym here ∙ sym (ap (read_as new) is) ∙ e)) (subst (λ (p : Source). Reads p.0 p.1 r) (sym is) reads)) (others q);
}

by_key : (text q : Bytes) (b : Bool) (r : Re) (m n : Option Re) → bytes_eq text q ≡ b → n ≡ cond b (Some r) m → (n ≡ m) ⊎ (q ≡ text)
by_key text q true r m n is e = inr (sym (same_bytes text q is))
by_key text q false r m n is e = inl e

pub learns_plain : (old new : PatternTable) (text : Bytes) (r : Re) → new.ignoring_case ≡ old.ignoring_case
    → ((q : Bytes) → get bytes_eq new.plain q ≡ cond (bytes_eq text q) (Some r) (get bytes_eq old.plain q))
    → Reads text false r → TakesIn old new (text, false)
learns_plain old new text r same all reads = learnt old new (text, false) r reads (all text ∙ ap (λ (b : Bool). cond b (Some r) (get bytes_eq old.plain text)) (bytes_same text text refl)) others
  where
    others : (q : Source) → (read_as new q ≡ read_as old q) ⊎ (q ≡ (text, false))
    others (q, true) = inl (ap (λ m. get bytes_eq m q) same)
    others (q, false) = ⊎_elim (λ e. inl e) (λ e. inr (ap (λ (b : Bytes). (b, false)) e)) (by_key text q (bytes_eq text q) r (get bytes_eq old.plain q) (get bytes_eq new.plain q) refl (all q))

pub learns_ignoring : (old new : PatternTable) (text : Bytes) (r : Re) → new.plain ≡ old.plain
    → ((q : Bytes) → get bytes_eq new.ignoring_case q ≡ cond (bytes_eq text q) (Some r) (get bytes_eq old.ignoring_case q))
    → Reads text true r → TakesIn old new (text, true)
learns_ignoring old new text r same all reads = learnt old new (text, true) r reads (all text ∙ ap (λ (b : Bool). cond b (Some r) (get bytes_eq old.ignoring_case text)) (bytes_same text text refl)) others
  where
    others : (q : Source) → (read_as new q ≡ read_as old q) ⊎ (q ≡ (text, true))
    others (q, false) = inl (ap (λ m. get bytes_eq m q) same)
    others (q, true) = ⊎_elim (λ e. inl e) (λ e. inr (ap (λ (b : Bytes). (b, true)) e)) (by_key text q (bytes_eq text q) r (get bytes_eq old.ignoring_case q) (get bytes_eq new.ignoring_case q) refl (all q))

-- ---- all patterns

-- so far each pattern was read
pub record Read (placed : List Placed) (t : PatternTable) (i : ℕ) : Type 0 where
  pub sound : IsSound t
  pub all : (p : PlacedPattern) → Contains (told_patterns (take i placed)) p → WasRead t p.source

pub read_begins : (placed : List Placed) (t : PatternTable) → IsSound t → Read placed t 0
read_begins placed t sound = record { sound = sound; all = λ p w. absurd (let lt = w.1 in omega arith) }

pub read_more : (placed : List Placed) (old new : PatternTable) (i : ℕ) (p : Placed) → i < length placed → p ≡ get_or placed i p → TakesIn old new (source_told p.source) → Read placed old i → Read placed new (i + 1)
read_more placed old new i p lt at learns before = record {
  sound = learns.sound before.sound;
  all = λ q w. ⊎_elim
      (λ v. learns.keeps q.source (before.all q v))
      (λ e. subst (λ (s : Source). WasRead new s) (ap (λ (x : PlacedPattern). x.source) e) learns.has)
      (Contains-push_cases (told_patterns (take i placed)) (placed_told p) q (subst (λ (xs : List PlacedPattern). Contains xs q) (map_more placed_told placed i p lt at) w));
}

pub read_all_of : (placed : List Placed) (t : PatternTable) (i : ℕ) → length placed ≤ i → Read placed t i → (p : PlacedPattern) → Contains (told_patterns placed) p → WasRead t p.source
read_all_of placed t i past read p w = read.all p (subst (λ (xs : List Placed). Contains (told_patterns xs) p) (sym (take_all i placed past)) w)

readable : (placed : List Placed) (t : PatternTable) (i : ℕ) → Read placed t i → Clear IsUnreadable (told_patterns (take i placed))
readable placed t i read = λ k d lt unreadable.
    let w = All-contains_itself (told_patterns (take i placed)) k d lt in
    let h = read.all (get_or (told_patterns (take i placed)) k d) w in
    unreadable h.0 (read.sound (get_or (told_patterns (take i placed)) k d).source h.0 h.1)

-- the first pattern that can't be read
pub refused_first : (placed : List Placed) (t : PatternTable) (i : ℕ) (p : Placed) (cause : PFault) (result : PatternFault) → i < length placed → p ≡ get_or placed i p → Read placed t i
    → (Not (cause ≡ Memory) → IsRefusal (source_told p.source) cause) → IsFaultAt (name_told p.rule) cause result → IsPatternFault (told_patterns placed) result
refused_first placed t i p cause fault.Memory lt at read refusal is = tt
refused_first placed t i p cause (fault.Refused name told_cause) lt at read refusal is =
    let why = refusal is.2 in
    record {
      pattern = placed_told p;
      first = first_here placed_told IsUnreadable placed i p lt at why.1 (readable placed t i read);
      rule_is = is.0;
      caused = subst (λ (f : PFault). Not (f ≡ Memory)) (sym is.1) is.2;
      cause_is = subst (λ (f : PFault). IsFault p.source.text.now p.source.ignore_case f) (sym is.1) why.0;
    }

pub short_here : (placed : List Placed) (i : ℕ) (p : Placed) → i < length placed → p ≡ get_or placed i p → AreShortSources (told_patterns placed) → IsShort p.source.text.now
short_here placed i p lt at short = short (placed_told p) (map_in placed_told placed p (i, lt, sym at))

pub if_ok_map : {T E : Type 0} (r : Result T E) (P Q : T → Type 0) → ((x : T) → P x → Q x) → IfOk r P → IfOk r Q
if_ok_map (Ok x) P Q f p = f x p
if_ok_map (Err e) P Q f p = tt

pub if_ok_both : {T E : Type 0} (r : Result T E) (P Q R : T → Type 0) → ((x : T) → P x → Q x → R x) → IfOk r P → IfOk r Q → IfOk r R
if_ok_both (Ok x) P Q R f p q = f x p q
if_ok_both (Err e) P Q R f p q = tt

-- the patterns of a grammar mean what they read as
pub all_mean : (g : Grammar) (t : PatternTable) → IsSound t → ((p : PlacedPattern) → Contains (placed_patterns g) p → WasRead t p.source) → ArePatterns Reads g (meaning t)
all_mean g t sound all = λ s w.
    let p = placed_of g s w in
    let h = subst (λ (q : Source). WasRead t q) p.2 (all p.0 p.1) in
    subst (λ (r : Re). Reads s.0 s.1 r) (sym (ap or_empty h.1)) (sound s h.0 h.1)
