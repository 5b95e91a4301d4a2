-- Each input has one answer.
use Rattle.std.proofs.Common.{◌≡◌, ℕ, zero, suc, ◌+◌, ◌-◌, ◌<◌, ◌≤◌, List, [], ◌∷◌, ◌++◌, length, get_or, take, drop, Bool, true, false, cond, ◌==◌, nat_lt, Option, Some, None, refl, sym, ap, subst, ◌∙◌, arith}
use Rattle.std.proofs.lemmas.Bool.{ltb-true, ltb-false, eqb-true}
use Rattle.std.proofs.lemmas.List.{append_assoc, append-nil, take-append-drop, take-take, take_all, length-take-le, drop-drop}
use Rattle.std.specs.Str.{IsUtf8, IsValidUpTo}
use Rattle.ts_ojson.specs.declared.escape.Escape.{Escape}
use Rattle.ts_ojson.specs.Pieces.{Piece}
use Rattle.ts_ojson.specs.Pieces.{reading, finished}
use Rattle.ts_ojson.specs.States.{State}
use Rattle.ts_ojson.specs.States as state
use Rattle.ts_ojson.specs.declared.value.OJson.{OJson}
use Rattle.ts_ojson.specs.declared.fault.OFault.{OFault}
use Rattle.ts_ojson.specs.declared.fault.OFault.TheVariants.{Syntax, Utf8, Deep, Duplicate, Memory}
use Rattle.ts_ojson.specs.declared.class.Class.TheVariants as class
use Rattle.ts_ojson.specs.declared.part.Part.{Part}
use Rattle.ts_ojson.specs.declared.part.Part.TheVariants as part
use Rattle.ts_ojson.specs.declared.escape.Escape.TheVariants.{Plain, Backslash, First, Second, Third, Fourth, High, HighBackslash, LowFirst, LowSecond, LowThird, LowFourth}
use Rattle.ts_ojson.specs.Frames as frame
use Rattle.ts_ojson.specs.Roles.{Role}
use Rattle.ts_ojson.specs.Roles as role
use Rattle.ts_ojson.specs.declared.word.Word.{Word}
use Rattle.ts_ojson.specs.declared.word.Word.TheVariants as word
use Rattle.ts_ojson.specs.declared.value.OJson.TheVariants as json
use Rattle.ts_ojson.specs.Json.{Json, json_of, HasDistinctNames}
use Rattle.ts_ojson.specs.Characters.{Mark, Characters}
use Rattle.ts_ojson.specs.Strings.{next_piece, IsWithin}
use Rattle.ts_ojson.specs.Machine.{Frames, part_next, word_bytes, word_value, fine, too_deep, repeated, Outcome, stuck, goes, after, number_part, word_next, next}
use Rattle.ts_ojson.proofs.Meaning.{Plainly, InText, PieceMeans, TextEnd, Completes, Means}
use Rattle.ts_ojson.proofs.StringLemmas.{head_is, tail_is, text_step}
use Rattle.ts_ojson.proofs.ValueLemmas.{nil_is}
use Rattle.ts_ojson.proofs.StepLemmas.{step_is}
use Rattle.ts_ojson.proofs.SoundLemmas.{StateSound, PieceWithin, within}
use Rattle.ts_ojson.proofs.FinalLemmas.{Leads, leads_start, leads_on, opening_deep, twice_not}
use Rattle.ts_ojson.specs.Text.{IsJsonText}
use Rattle.ts_ojson.specs.Reads.{Reads, Begins, IsAny, IsShallow, IsKept, IsSyntaxFault, IsDeepFault, IsDuplicateFault, IsFault}

-- ---- fronts of fronts
front_of_front : (P : Json → Type 0) (w : List ℕ) (p q : ℕ) → p ≤ q → Begins P (take q w) → Begins P (take p w)
front_of_front P w p q le (r, j, x, h) =
    let e : take p w ++ (drop p (take q w) ++ r) ≡ take q w ++ r
    = sym (append_assoc (take p w) (drop p (take q w)) r) ∙ ap (λ y. (y ++ drop p (take q w)) ++ r) (sym (take-take p q w le)) ∙ ap (λ y. y ++ r) (take-append-drop p (take q w)) in
    (drop p (take q w) ++ r, j, subst (λ (y : List ℕ). IsJsonText j y) (sym e) x, h)

front_of_text : (P : Json → Type 0) (w : List ℕ) (p : ℕ) (j : Json) → IsJsonText j w → P j → Begins P (take p w)
front_of_text P w p j x h = (drop p w, j, subst (λ (y : List ℕ). IsJsonText j y) (sym (take-append-drop p w)) x, h)

any_front : (P : Json → Type 0) (u : List ℕ) → Begins P u → Begins IsAny u
any_front P u (r, j, x, h) = (r, j, x, tt)

shallow_front : (u : List ℕ) → IsKept u → Begins IsShallow u
shallow_front u (r, j, x, h) = (r, j, x, h.0)

distinct_front : (u : List ℕ) → IsKept u → Begins HasDistinctNames u
distinct_front u (r, j, x, h) = (r, j, x, h.1)

utf8_of_valid : (w : List ℕ) (p : ℕ) → IsValidUpTo w p → IsUtf8 w → ⊥
utf8_of_valid w p h u = h.longest (length w) h.short (subst IsUtf8 (sym (take_all (length w) w (omega arith))) u)

-- ---- what is refused is no text that is read
pub refused_not_read : (e : OFault) (v : OJson) (w : List ℕ) → (e ≡ Memory → ⊥) → IsFault e w → Reads v w → ⊥
refused_not_read (Syntax p) v w m f h = f.no_text (json_of v) h.text
refused_not_read (Utf8 p) v w m f h = utf8_of_valid w p f h.utf8
refused_not_read (Deep p) v w m f h = f.deep (front_of_text IsShallow w (p + 1) (json_of v) h.text h.shallow)
refused_not_read (Duplicate p) v w m f h = f.twice (front_of_text HasDistinctNames w (f.close + 1) (json_of v) h.text h.distinct)
refused_not_read Memory v w m f h = m refl

-- ---- one place
by_order : (p q : ℕ) → (p < q → ⊥) → (q < p → ⊥) → p ≡ q
by_order p q f g = by (nat_lt p q) refl (nat_lt q p) refl
  where
    by : (x : Bool) → nat_lt p q ≡ x → (y : Bool) → nat_lt q p ≡ y → p ≡ q
    by true e y d = absurd (f (ltb-true p q e))
    by false e true d = absurd (g (ltb-true q p d))
    by false e false d = let le = ltb-false p q e in let ge = ltb-false q p d in omega arith

syntax_least : (w : List ℕ) (p q : ℕ) → IsSyntaxFault w p → IsSyntaxFault w q → p < q → ⊥
syntax_least w p q f g lt = f.longest q lt g.within (any_front (λ j. IsShallow j × HasDistinctNames j) (take q w) g.before)

deep_least : (w : List ℕ) (p q : ℕ) → IsDeepFault w p → IsDeepFault w q → p < q → ⊥
deep_least w p q f g lt = f.deep (front_of_front IsShallow w (p + 1) q (omega arith) (shallow_front (take q w) g.before))

syntax_or_deep : (w : List ℕ) (p q : ℕ) → IsSyntaxFault w p → IsDeepFault w q → ⊥
syntax_or_deep w p q f g = by (nat_lt q p) refl
  where
    by : (t : Bool) → nat_lt q p ≡ t → ⊥
    by true e = g.deep (front_of_front IsShallow w (q + 1) p (let lt = ltb-true q p e in omega arith) (shallow_front (take p w) f.before))
    by false e = f.longest (q + 1) (let le = ltb-false q p e in omega arith) (let lt = g.within in omega arith) g.begins

syntax_or_twice : (w : List ℕ) (p q : ℕ) → IsSyntaxFault w p → IsDuplicateFault w q → ⊥
syntax_or_twice w p q f g = by (nat_lt g.close p) refl
  where
    by : (t : Bool) → nat_lt g.close p ≡ t → ⊥
    by true e = g.twice (front_of_front HasDistinctNames w (g.close + 1) p (let lt = ltb-true g.close p e in omega arith) (distinct_front (take p w) f.before))
    by false e = f.longest (g.close + 1) (let le = ltb-false g.close p e in omega arith) (let lt = g.within.1 in omega arith) (any_front IsShallow (take (g.close + 1) w) g.begins)

deep_or_twice : (w : List ℕ) (p q : ℕ) → IsDeepFault w p → IsDuplicateFault w q → ⊥
deep_or_twice w p q f g = by (nat_lt g.close p) refl
  where
    by : (t : Bool) → nat_lt g.close p ≡ t → ⊥
    by true e = g.twice (front_of_front HasDistinctNames w (g.close + 1) p (let lt = ltb-true g.close p e in omega arith) (distinct_front (take p w) f.before))
    by false e = f.deep (front_of_front IsShallow w (p + 1) (g.close + 1) (let le = ltb-false g.close p e in omega arith) g.begins)

one_close : (w : List ℕ) (p q : ℕ) (f : IsDuplicateFault w p) (g : IsDuplicateFault w q) → f.close < g.close → ⊥
one_close w p q f g lt = f.twice (front_of_front HasDistinctNames w (f.close + 1) g.close (omega arith) (distinct_front (take g.close w) g.before))

valid_least : (w : List ℕ) (p q : ℕ) → IsValidUpTo w p → IsValidUpTo w q → p < q → ⊥
valid_least w p q f g lt = f.longest q lt g.front

-- ---- a front that is kept leads to a state
kept_state : (w : List ℕ) (at : ℕ) (o : Outcome) → Leads w at o → IsKept (take at w) → (s : State) × (k : Frames) × Leads w at (goes fine s k)
kept_state w at stuck l (r, j, x, h) = absurd ((l.same j r).0 x)
kept_state w at (goes fine s k) l h = (s, k, l)
kept_state w at (goes too_deep s k) l (r, j, x, h) = let deep = opening_deep s k j r l.sound ((l.same j r).0 x) in let le = h.0 in absurd (omega arith)
kept_state w at (goes (repeated p) s k) l (r, j, x, h) = absurd (twice_not s k j r l.sound ((l.same j r).0 x) h.1)

reach : (w : List ℕ) → IsUtf8 w → (p : ℕ) → p ≤ length w → IsKept (take p w) → (s : State) × (k : Frames) × Leads w p (goes fine s k)
reach w u zero le h = (state.value, [], leads_start w)
reach w u (suc q) le h =
    let e : q + 1 ≡ suc q = omega arith in
    let before = reach w u q (omega arith) (front_of_front (λ j. IsShallow j × HasDistinctNames j) w q (suc q) (omega arith) h) in
    let on = leads_on w q (get_or w q 0) before.0 before.1 (record { utf8 = u; within = omega arith; byte = refl }) before.2 in
    kept_state w (suc q) (next q before.0 before.1 (get_or w q 0)) (subst (λ (n : ℕ). Leads w n (next q before.0 before.1 (get_or w q 0))) e on) h

-- ---- no line feed in a string
no_feed : (K : List ℕ → List ℕ → Type 0) (e : Escape) (s z : List ℕ) → IsWithin e → InText e s K (10 ∷ z) → ⊥
no_feed K Plain s z is h = (text_step K Plain s z 10 is).0 h
no_feed K Backslash s z is h = (text_step K Backslash s z 10 is).0 h
no_feed K First s z is h = (text_step K First s z 10 is).0 h
no_feed K (Second n) s z is h = (text_step K (Second n) s z 10 is).0 h
no_feed K (Third n) s z is h = (text_step K (Third n) s z 10 is).0 h
no_feed K (Fourth n) s z is h = (text_step K (Fourth n) s z 10 is).0 h
no_feed K (High n) s z is h = (text_step K (High n) s z 10 is).0 h
no_feed K (HighBackslash n) s z is h = (text_step K (HighBackslash n) s z 10 is).0 h
no_feed K (LowFirst n) s z is h = (text_step K (LowFirst n) s z 10 is).0 h
no_feed K (LowSecond n) s z is h = (text_step K (LowSecond n) s z 10 is).0 h
no_feed K (LowThird n m) s z is h = (text_step K (LowThird n m) s z 10 is).0 h
no_feed K (LowFourth n m) s z is h = (text_step K (LowFourth n m) s z 10 is).0 h

not_empty : (m y : List ℕ) (b : ℕ) → m ++ b ∷ y ≡ [] → ⊥
not_empty [] y b e = nil_is b y (sym e)
not_empty (x ∷ m) y b e = nil_is x (m ++ b ∷ y) (sym e)

abbrev Ends : List ℕ → List ℕ → Type 0
Ends s r = r ≡ []

-- a line feed could not stand where the string goes on to its end
inside_piece : (m : List ℕ) (K : List ℕ → List ℕ → Type 0) (z y : List ℕ) (o : Option Piece) → PieceWithin o → PieceMeans K (m ++ 10 ∷ z) o → PieceMeans Ends (m ++ 34 ∷ y) o
    → ((e : Escape) (s : List ℕ) → IsWithin e → InText e s K (m ++ 10 ∷ z) → InText e s Ends (m ++ 34 ∷ y) → ⊥) → ⊥
inside_piece m K z y None is g h again = absurd g
inside_piece m K z y (Some (reading e s)) is g h again = again e s is g h
inside_piece m K z y (Some (finished s)) is g h again = not_empty m y 34 h

inside : (m : List ℕ) (K : List ℕ → List ℕ → Type 0) (e : Escape) (s z y : List ℕ) → IsWithin e → InText e s K (m ++ 10 ∷ z) → InText e s Ends (m ++ 34 ∷ y) → ⊥
inside [] K e s z y is g h = no_feed K e s z is g
inside (b ∷ m) K e s z y is g h =
    inside_piece m K z y (next_piece e s b) (within e s b is) ((text_step K e s (m ++ 10 ∷ z) b is).0 g) ((text_step Ends e s (m ++ 34 ∷ y) b is).0 h)
    (λ i t w x l. inside m K i t z y w x l)

-- ---- a quote outside of strings opens one
abbrev OpensText : Json → List ℕ → Type 0
OpensText v z = (r : Role) × (i : Frames) × Plainly [] (TextEnd r i v) z

no_quote_after : (v : Json) (z : List ℕ) (o : OJson) (k : Frames) → Means (after o k class.Quote) v z → ⊥
no_quote_after v z o [] h = h
no_quote_after v z o (frame.array xs ∷ k) h = h
no_quote_after v z o (frame.object ms n ∷ k) h = h

letters : (x : Word) (i : ℕ) → get_or (word_bytes x) i 0 ≡ 34 → ⊥
letters word.Null zero e = omega arith
letters word.Null (suc zero) e = omega arith
letters word.Null (suc (suc zero)) e = omega arith
letters word.Null (suc (suc (suc zero))) e = omega arith
letters word.Null (suc (suc (suc (suc i)))) e = omega arith
letters word.True zero e = omega arith
letters word.True (suc zero) e = omega arith
letters word.True (suc (suc zero)) e = omega arith
letters word.True (suc (suc (suc zero))) e = omega arith
letters word.True (suc (suc (suc (suc i)))) e = omega arith
letters word.False zero e = omega arith
letters word.False (suc zero) e = omega arith
letters word.False (suc (suc zero)) e = omega arith
letters word.False (suc (suc (suc zero))) e = omega arith
letters word.False (suc (suc (suc (suc zero)))) e = omega arith
letters word.False (suc (suc (suc (suc (suc i))))) e = omega arith

no_quote_word : (v : Json) (z : List ℕ) (x : Word) (i : ℕ) (k : Frames) → Means (word_next x i k 34) v z → ⊥
no_quote_word v z x i k h = by (nat_lt i (length (word_bytes x))) h
  where
    by_letter : (t : Bool) → (get_or (word_bytes x) i 0 == 34) ≡ t → Means (cond t (goes fine (state.word x (i + 1)) k) stuck) v z → ⊥
    by_letter true e h = letters x i (eqb-true (get_or (word_bytes x) i 0) 34 e)
    by_letter false e h = h

    by : (t : Bool) → Means (cond t (cond (get_or (word_bytes x) i 0 == 34) (goes fine (state.word x (i + 1)) k) stuck) (after (word_value x) k class.Quote)) v z → ⊥
    by true h = by_letter (get_or (word_bytes x) i 0 == 34) refl h
    by false h = no_quote_after v z (word_value x) k h

no_quote_end : (v : Json) (z s : List ℕ) (k : Frames) (t : Bool) → Means (cond t (after (json.Num s) k class.Quote) stuck) v z → ⊥
no_quote_end v z s k true h = no_quote_after v z (json.Num s) k h
no_quote_end v z s k false h = h

no_quote_number : (v : Json) (z : List ℕ) (p : Part) (s : List ℕ) (k : Frames) → Means (number_part p s k 34 (part_next p class.Quote)) v z → ⊥
no_quote_number v z part.Minus s k h = no_quote_end v z s k false h
no_quote_number v z part.Zero s k h = no_quote_end v z s k true h
no_quote_number v z part.Whole s k h = no_quote_end v z s k true h
no_quote_number v z part.Point s k h = no_quote_end v z s k false h
no_quote_number v z part.Fraction s k h = no_quote_end v z s k true h
no_quote_number v z part.Exponent s k h = no_quote_end v z s k false h
no_quote_number v z part.Sign s k h = no_quote_end v z s k false h
no_quote_number v z part.Power s k h = no_quote_end v z s k true h

opens_text : (s : State) (k : Frames) (v u : Json) (r z : List ℕ) → StateSound s k → Completes s k u (10 ∷ r) → Completes s k v (34 ∷ z) → OpensText v z
opens_text state.value k v u r z is f h = (role.value, k, (step_is 0 state.value k v 34 z tt).0 h)
opens_text state.first_item k v u r z is f h = (role.value, frame.array [] ∷ k, (step_is 0 state.first_item k v 34 z tt).0 h)
opens_text (state.after o) k v u r z is f h = absurd (no_quote_after v z o k ((step_is 0 (state.after o) k v 34 z tt).0 h))
opens_text state.first_name k v u r z is f h = (role.name 0 [], k, (step_is 0 state.first_name k v 34 z tt).0 h)
opens_text (state.name ms) k v u r z is f h = (role.name 0 ms, k, (step_is 0 (state.name ms) k v 34 z tt).0 h)
opens_text (state.colon ms n) k v u r z is f h = absurd ((step_is 0 (state.colon ms n) k v 34 z tt).0 h)
opens_text (state.word x i) k v u r z is f h = absurd (no_quote_word v z x i k ((step_is 0 (state.word x i) k v 34 z tt).0 h))
opens_text (state.number p t) k v u r z is f h = absurd (no_quote_number v z p t k ((step_is 0 (state.number p t) k v 34 z tt).0 h))
opens_text (state.text e t o) k v u r z is f h = absurd (no_feed (TextEnd o k u) e t r is.0 f)

-- ---- one place of a name
take_nil : (n : ℕ) (l : List ℕ) → l ≡ [] → take n l ≡ []
take_nil zero l e = refl
take_nil (suc n) l e = ap (take (suc n)) e

drop_nil : (n : ℕ) (l : List ℕ) → l ≡ [] → drop n l ≡ []
drop_nil zero l e = e
drop_nil (suc n) l e = ap (drop (suc n)) e

drop_taken : (m n : ℕ) (l : List ℕ) → drop m (take (m + n) l) ≡ take n (drop m l)
drop_taken zero n l = let e : 0 + n ≡ n = omega arith in ap (λ k. take k l) e
drop_taken (suc m) n [] = drop_nil (suc m) (take (suc m + n) []) (take_nil (suc m + n) [] refl) ∙ sym (take_nil n (drop (suc m) []) refl)
drop_taken (suc m) n (x ∷ l) = let e : suc m + n ≡ suc (m + n) = omega arith in ap (λ k. drop (suc m) (take k (x ∷ l))) e ∙ drop_taken m n l

take_both : (m n : ℕ) (l : List ℕ) → take (m + n) l ≡ take m l ++ take n (drop m l)
take_both m n l =
    sym (take-append-drop m (take (m + n) l)) ∙ ap (λ y. y ++ drop m (take (m + n) l)) (take-take m (m + n) l (omega arith)) ∙ ap (λ y. take m l ++ y) (drop_taken m n l)

-- t is what stands from p up to q
place_twice : (t w v z : List ℕ) (p q : ℕ) (f : IsDuplicateFault w p) (g : IsDuplicateFault w q) → 0 < length t → take q w ≡ take p w ++ t → 34 ∷ v ≡ t ++ 34 ∷ z → (ms : List Mark) × (n : List ℕ) × Characters ms n v [] → ⊥
place_twice [] w v z p q f g long e split x = omega arith
place_twice (b ∷ m) w v z p q f g long e split (ms, n, x) =
    let front : Begins IsAny (take p w) = any_front (λ j. IsShallow j × HasDistinctNames j) (take p w) kept_p in
    let s = reach w f.utf8 p (omega (arith, f.within)) kept_p in
    let feed = f.starts in
    let first : Completes s.0 s.1 feed.1 (10 ∷ feed.0) = (s.2.same feed.1 (10 ∷ feed.0)).0 (subst (λ (y : List ℕ). IsJsonText feed.1 y) (append_assoc (take p w) (10 ∷ []) feed.0) feed.2) in
    let later = g.starts in
    let there : (take q w ++ 10 ∷ []) ++ later.0 ≡ take p w ++ 34 ∷ (m ++ 10 ∷ later.0)
    = append_assoc (take q w) (10 ∷ []) later.0 ∙ ap (λ y. y ++ 10 ∷ later.0) e ∙ append_assoc (take p w) (b ∷ m) (10 ∷ later.0) ∙ ap (λ c. take p w ++ c ∷ (m ++ 10 ∷ later.0)) (sym (head_is split)) in
    let second : Completes s.0 s.1 later.1 (34 ∷ (m ++ 10 ∷ later.0)) = (s.2.same later.1 (34 ∷ (m ++ 10 ∷ later.0))).0 (subst (λ (y : List ℕ). IsJsonText later.1 y) there later.2) in
    let text = opens_text s.0 s.1 later.1 feed.1 feed.0 (m ++ 10 ∷ later.0) s.2.sound first second in
    inside m (TextEnd text.0 text.1 later.1) Plain [] later.0 z tt text.2 (subst (λ (y : List ℕ). Plainly [] Ends y) (tail_is split) (ms, n, [], x, refl))
  where
    kept_p : IsKept (take p w)
    kept_p = front_of_front (λ j. IsShallow j × HasDistinctNames j) w p f.close (omega (arith, f.within)) f.before

one_name : (w : List ℕ) (p q : ℕ) (f : IsDuplicateFault w p) (g : IsDuplicateFault w q) → f.close ≡ g.close → p < q → ⊥
one_name w p q f g same lt =
    let inner = f.within in
    let outer = g.within in
    let rest : drop (q - p) (drop p w) ≡ drop q w = drop-drop (q - p) p w ∙ ap (λ n. drop n w) (let n : p + (q - p) ≡ q = omega arith in n) in
    let split : take (f.close + 1 - p) (drop p w) ≡ take (q - p) (drop p w) ++ take (g.close + 1 - q) (drop q w)
    = ap (λ n. take n (drop p w)) (let n : f.close + 1 - p ≡ (q - p) + (g.close + 1 - q) = omega arith in n) ∙ take_both (q - p) (g.close + 1 - q) (drop p w)
    ∙ ap (λ l. take (q - p) (drop p w) ++ take (g.close + 1 - q) l) rest in
    let more : take q w ≡ take p w ++ take (q - p) (drop p w) = ap (λ n. take n w) (let n : q ≡ p + (q - p) = omega arith in n) ∙ take_both p (q - p) w in
    let long : length (take (q - p) (drop p w)) ≡ q - p = length-take-le (q - p) (drop p w) (omega (arith, Rattle.std.proofs.lemmas.List.length-drop p w)) in
    let one = f.string in
    let two = g.string in
    place_twice (take (q - p) (drop p w)) w one.0 two.0 p q f g (omega arith) more (sym one.2 ∙ split ∙ ap (λ y. take (q - p) (drop p w) ++ y) two.2) (one.1, f.name, one.3)

dup_place : (w : List ℕ) (p q : ℕ) → IsDuplicateFault w p → IsDuplicateFault w q → p < q → ⊥
dup_place w p q f g lt = one_name w p q f g (by_order f.close g.close (one_close w p q f g) (one_close w q p g f)) lt

-- ---- one answer
pub one_fault : (e f : OFault) (w : List ℕ) → (e ≡ Memory → ⊥) → (f ≡ Memory → ⊥) → IsFault e w → IsFault f w → e ≡ f
one_fault Memory f w m n g h = absurd (m refl)
one_fault (Syntax p) Memory w m n g h = absurd (n refl)
one_fault (Utf8 p) Memory w m n g h = absurd (n refl)
one_fault (Deep p) Memory w m n g h = absurd (n refl)
one_fault (Duplicate p) Memory w m n g h = absurd (n refl)
one_fault (Syntax p) (Syntax q) w m n g h = ap Syntax (by_order p q (syntax_least w p q g h) (syntax_least w q p h g))
one_fault (Syntax p) (Utf8 q) w m n g h = absurd (utf8_of_valid w q h g.utf8)
one_fault (Syntax p) (Deep q) w m n g h = absurd (syntax_or_deep w p q g h)
one_fault (Syntax p) (Duplicate q) w m n g h = absurd (syntax_or_twice w p q g h)
one_fault (Utf8 p) (Syntax q) w m n g h = absurd (utf8_of_valid w p g h.utf8)
one_fault (Utf8 p) (Utf8 q) w m n g h = ap Utf8 (by_order p q (valid_least w p q g h) (valid_least w q p h g))
one_fault (Utf8 p) (Deep q) w m n g h = absurd (utf8_of_valid w p g h.utf8)
one_fault (Utf8 p) (Duplicate q) w m n g h = absurd (utf8_of_valid w p g h.utf8)
one_fault (Deep p) (Syntax q) w m n g h = absurd (syntax_or_deep w q p h g)
one_fault (Deep p) (Utf8 q) w m n g h = absurd (utf8_of_valid w q h g.utf8)
one_fault (Deep p) (Deep q) w m n g h = ap Deep (by_order p q (deep_least w p q g h) (deep_least w q p h g))
one_fault (Deep p) (Duplicate q) w m n g h = absurd (deep_or_twice w p q g h)
one_fault (Duplicate p) (Syntax q) w m n g h = absurd (syntax_or_twice w q p h g)
one_fault (Duplicate p) (Utf8 q) w m n g h = absurd (utf8_of_valid w q h g.utf8)
one_fault (Duplicate p) (Deep q) w m n g h = absurd (deep_or_twice w q p h g)
one_fault (Duplicate p) (Duplicate q) w m n g h = ap Duplicate (by_order p q (dup_place w p q g h) (dup_place w q p h g))
