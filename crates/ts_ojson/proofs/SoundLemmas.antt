-- What is read is not too deep and has no name twice.
use Rattle.std.proofs.Common.{◌≡◌, ℕ, suc, ◌+◌, ◌*◌, ◌<◌, ◌≤◌, inl, inr, List, [], ◌∷◌, ◌++◌, length, get_or, Bool, true, false, cond, ◌==◌, ◌||◌, nat_lt, Option, Some, None, refl, sym, ap, subst, arith}
use Rattle.std.proofs.lemmas.Bool.{ltb-true, ltb-false}
use Rattle.std.proofs.lemmas.Slice.Eq.{bytes_eq-Decides}
use Rattle.std.specs.Str.{bytes_eq}
use Rattle.std.specs.Char.{digit_value}
use Rattle.ts_ojson.specs.declared.class.Class.{Class}
use Rattle.ts_ojson.specs.declared.class.Class.TheVariants as class
use Rattle.ts_ojson.specs.declared.part.Part.{Part}
use Rattle.ts_ojson.specs.declared.escape.Escape.{Escape}
use Rattle.ts_ojson.specs.declared.escape.Escape.TheVariants.{Plain, Backslash, First, Second, Third, Fourth, High, HighBackslash, LowFirst, LowSecond, LowThird, LowFourth}
use Rattle.ts_ojson.specs.Pieces.{Piece}
use Rattle.ts_ojson.specs.Pieces.{reading, finished}
use Rattle.ts_ojson.specs.Frames as frame
use Rattle.ts_ojson.specs.declared.word.Word.{Word}
use Rattle.ts_ojson.specs.declared.word.Word.TheVariants as word
use Rattle.ts_ojson.specs.Roles.{Role}
use Rattle.ts_ojson.specs.Roles as role
use Rattle.ts_ojson.specs.States.{State}
use Rattle.ts_ojson.specs.States as state
use Rattle.ts_ojson.specs.declared.value.OJson.{OJson}
use Rattle.ts_ojson.specs.declared.value.OJson.TheVariants as json
use Rattle.ts_ojson.specs.Json.{Json, null, boolean, number, string, array, object, no_items, item, no_members, member, json_of, depth, items_depth, members_depth, names, IsNone, AreDistinct, HasDistinctNames, ItemsHaveDistinctNames, MembersHaveDistinctNames}
use Rattle.ts_ojson.specs.Characters.{short_of}
use Rattle.ts_ojson.specs.Gathered.{has_name}
use Rattle.ts_ojson.specs.Strings.{shorted, digit_piece, hex_piece, next_piece, IsWithin}
use Rattle.ts_ojson.specs.Machine.{Frames, Gathered, class_of, part_next, part_ends, word_bytes, word_value, fine, too_deep, repeated, Outcome, stuck, goes, stays, opens, begin_class, value_class, after_item, after_member, after, item_first_class, name_first, name_next, colon_next, word_next, number_part, closed, text_piece, next}
use Rattle.ts_ojson.proofs.JsonLemmas.{json_of_null, json_of_bool, json_of_num, json_of_text, json_of_array, json_of_object}
use Rattle.ts_ojson.proofs.Meaning.{onto_items, onto_members}
use Rattle.ts_ojson.proofs.ValueLemmas.{array_is, object_is}

-- ---- a value below d levels
abbrev pub IsGood : ℕ → Json → Type 0
IsGood d j = (depth j + d ≤ 256) × HasDistinctNames j

abbrev pub AllGood : ℕ → List OJson → Type 0
AllGood d [] = Unit {0}
AllGood d (x ∷ xs) = IsGood d (json_of x) × AllGood d xs

abbrev pub AllGoodMembers : ℕ → Gathered → Type 0
AllGoodMembers d [] = Unit {0}
AllGoodMembers d (x ∷ xs) = IsGood d (json_of x.1) × AllGoodMembers d xs

abbrev pub named : Gathered → List (List ℕ)
named [] = []
named (x ∷ xs) = x.0 ∷ named xs

-- each array and object that is open
abbrev pub IsSound : Frames → Type 0
IsSound [] = Unit {0}
IsSound (frame.array xs ∷ k) = AllGood (suc (length k)) xs × (suc (length k) ≤ 256) × IsSound k
IsSound (frame.object ms n ∷ k) = AllGoodMembers (suc (length k)) ms × AreDistinct (named ms) × (has_name n ms ≡ false) × (suc (length k) ≤ 256) × IsSound k

abbrev pub IsOpen : Gathered → Frames → Type 0
IsOpen ms k = AllGoodMembers (suc (length k)) ms × AreDistinct (named ms) × (suc (length k) ≤ 256) × IsSound k

abbrev pub RoleSound : Role → Frames → Type 0
RoleSound role.value k = IsSound k
RoleSound (role.name p ms) k = IsOpen ms k

abbrev pub StateSound : State → Frames → Type 0
StateSound state.value k = IsSound k
StateSound state.first_item k = (suc (length k) ≤ 256) × IsSound k
StateSound (state.after o) k = IsGood (length k) (json_of o) × IsSound k
StateSound state.first_name k = (suc (length k) ≤ 256) × IsSound k
StateSound (state.name ms) k = IsOpen ms k
StateSound (state.colon ms n) k = IsOpen ms k × (has_name n ms ≡ false)
StateSound (state.word x i) k = (i < 8) × IsSound k
StateSound (state.number p s) k = IsSound k
StateSound (state.text e s r) k = IsWithin e × RoleSound r k

-- what each verdict says
abbrev pub IsOpening : State → Frames → Type 0
IsOpening state.value k = ⊥
IsOpening state.first_item k = 256 ≤ length k
IsOpening (state.after o) k = ⊥
IsOpening state.first_name k = 256 ≤ length k
IsOpening (state.name ms) k = ⊥
IsOpening (state.colon ms n) k = ⊥
IsOpening (state.word x i) k = ⊥
IsOpening (state.number p s) k = ⊥
IsOpening (state.text e s r) k = ⊥

abbrev pub IsTwice : State → Frames → Type 0
IsTwice state.value k = ⊥
IsTwice state.first_item k = ⊥
IsTwice (state.after o) k = ⊥
IsTwice state.first_name k = ⊥
IsTwice (state.name ms) k = ⊥
IsTwice (state.colon ms n) k = IsOpen ms k × (has_name n ms ≡ true)
IsTwice (state.word x i) k = ⊥
IsTwice (state.number p s) k = ⊥
IsTwice (state.text e s r) k = ⊥

abbrev pub Judged : Outcome → Type 0
Judged stuck = Unit {0}
Judged (goes fine s k) = StateSound s k
Judged (goes too_deep s k) = IsOpening s k
Judged (goes (repeated p) s k) = IsTwice s k

-- ---- names

name_eq : (n m : List ℕ) → n ≡ m → bytes_eq n m ≡ true
name_eq n m e = (bytes_eq-Decides n m).1 e

other_name : (n m : List ℕ) (t : Bool) → (bytes_eq n m || t) ≡ false → (n ≡ m → ⊥) × (t ≡ false)
other_name n m t e = by (bytes_eq n m) refl e
  where
    by : (x : Bool) → bytes_eq n m ≡ x → (x || t) ≡ false → (n ≡ m → ⊥) × (t ≡ false)
    by true f h = cc
    by false f h = ((λ same. let yes_it : bytes_eq n m ≡ true = name_eq n m same in cc), h)

pub has_none : (n : List ℕ) (ms : Gathered) → has_name n ms ≡ false → IsNone n (named ms)
has_none n [] e = tt
has_none n (m ∷ ms) e = let o = other_name n m.0 (has_name n ms) e in (o.0, has_none n ms o.1)

none_more : (k n : List ℕ) (ks : List (List ℕ)) → IsNone k ks → (k ≡ n → ⊥) → IsNone k (ks ++ n ∷ [])
none_more k n [] h d = (d, tt)
none_more k n (l ∷ ls) h d = (h.0, none_more k n ls h.1 d)

pub distinct_more : (n : List ℕ) (ks : List (List ℕ)) → AreDistinct ks → IsNone n ks → AreDistinct (ks ++ n ∷ [])
distinct_more n [] d h = (tt, tt)
distinct_more n (k ∷ ks) d h = (none_more k n ks d.0 (λ e. h.0 (sym e)), distinct_more n ks d.1 h.1)

named_more : (ms : Gathered) (n : List ℕ) (o : OJson) → named (ms ++ (n, o) ∷ []) ≡ named ms ++ n ∷ []
named_more [] n o = refl
named_more (m ∷ ms) n o = ap (λ ks. m.0 ∷ ks) (named_more ms n o)

names_onto : (ms : Gathered) (n : List ℕ) (j : Json) → names (onto_members ms (member n j no_members)) ≡ named ms ++ n ∷ []
names_onto [] n j = refl
names_onto (m ∷ ms) n j = ap (λ ks. m.0 ∷ ks) (names_onto ms n j)

-- ---- a closed array or object
array_good : (d : ℕ) (xs : List OJson) (j : Json) → AllGood (suc d) xs → IsGood (suc d) j → suc d ≤ 256
    → (items_depth (onto_items xs (item j no_items)) + suc d ≤ 256) × ItemsHaveDistinctNames (onto_items xs (item j no_items))
array_good d [] j all g le = (omega arith, (g.1, tt))
array_good d (x ∷ xs) j all g le = let rest = array_good d xs j all.1 g le in (omega arith, (all.0.1, rest.1))

object_good : (d : ℕ) (ms : Gathered) (n : List ℕ) (j : Json) → AllGoodMembers (suc d) ms → IsGood (suc d) j → suc d ≤ 256
    → (members_depth (onto_members ms (member n j no_members)) + suc d ≤ 256) × MembersHaveDistinctNames (onto_members ms (member n j no_members))
object_good d [] n j all g le = (omega arith, (g.1, tt))
object_good d (x ∷ xs) n j all g le = let rest = object_good d xs n j all.1 g le in (omega arith, (all.0.1, rest.1))

pub array_closed : (d : ℕ) (xs : List OJson) (j : Json) → AllGood (suc d) xs → IsGood (suc d) j → suc d ≤ 256 → IsGood d (array (onto_items xs (item j no_items)))
array_closed d xs j all g le = let rest = array_good d xs j all g le in (omega arith, rest.1)

pub object_closed : (d : ℕ) (ms : Gathered) (n : List ℕ) (j : Json) → AllGoodMembers (suc d) ms → AreDistinct (named ms) → has_name n ms ≡ false → IsGood (suc d) j → suc d ≤ 256
    → IsGood d (object (onto_members ms (member n j no_members)))
object_closed d ms n j all apart fresh g le =
    let rest = object_good d ms n j all g le in
    (omega arith, (subst AreDistinct (sym (names_onto ms n j)) (distinct_more n (named ms) apart (has_none n ms fresh)), rest.1))

good_more : (d : ℕ) (xs : List OJson) (o : OJson) → AllGood d xs → IsGood d (json_of o) → AllGood d (xs ++ o ∷ [])
good_more d [] o all g = (g, tt)
good_more d (x ∷ xs) o all g = (all.0, good_more d xs o all.1 g)

good_more_members : (d : ℕ) (ms : Gathered) (n : List ℕ) (o : OJson) → AllGoodMembers d ms → IsGood d (json_of o) → AllGoodMembers d (ms ++ (n, o) ∷ [])
good_more_members d [] n o all g = (g, tt)
good_more_members d (x ∷ xs) n o all g = (all.0, good_more_members d xs n o all.1 g)

pub few_open : (k : Frames) → IsSound k → length k ≤ 256
few_open [] s = omega arith
few_open (frame.array xs ∷ k) s = s.1
few_open (frame.object ms n ∷ k) s = s.3

pub simple_good : (d : ℕ) (i j : Json) → d ≤ 256 → i ≡ j → depth j ≡ 0 → HasDistinctNames j → IsGood d i
simple_good d i j le e z h = subst (IsGood d) (sym e) (omega arith, h)

-- ---- each outcome is judged right
opens_judged : (s : State) (k : Frames) → (length k < 256 → StateSound s k) → (256 ≤ length k → IsOpening s k) → Judged (opens s k)
opens_judged s k f g = by (nat_lt (length k) 256) refl
  where
    by : (t : Bool) → nat_lt (length k) 256 ≡ t → Judged (goes (cond t fine too_deep) s k)
    by true e = f (ltb-true (length k) 256 e)
    by false e = g (ltb-false (length k) 256 e)

begin_judged : (k : Frames) (b : ℕ) (c : Class) → IsSound k → Judged (begin_class k b c)
begin_judged k b class.Quote s = (tt, s)
begin_judged k b class.OpenArray s = opens_judged state.first_item k (λ h. (h, s)) (λ h. h)
begin_judged k b class.OpenObject s = opens_judged state.first_name k (λ h. (h, s)) (λ h. h)
begin_judged k b class.Minus s = s
begin_judged k b class.Zero s = s
begin_judged k b class.Digit s = s
begin_judged k b class.LetterT s = (omega arith, s)
begin_judged k b class.LetterF s = (omega arith, s)
begin_judged k b class.LetterN s = (omega arith, s)
begin_judged k b c s = tt

value_judged : (k : Frames) (b : ℕ) (c : Class) → IsSound k → Judged (value_class k b c)
value_judged k b class.Blank s = s
value_judged k b c s = begin_judged k b c s

item_judged : (k : Frames) (b : ℕ) (c : Class) → suc (length k) ≤ 256 → IsSound k → Judged (item_first_class k b c)
item_judged k b class.Blank le s = (le, s)
item_judged k b class.CloseArray le s = (subst (IsGood (length k)) (sym (json_of_array [])) (omega arith, tt), s)
item_judged k b c le s = begin_judged (frame.array [] ∷ k) b c (tt, le, s)

array_judged : (xs : List OJson) (o : OJson) (k : Frames) (c : Class) → IsGood (suc (length k)) (json_of o) → IsSound (frame.array xs ∷ k) → Judged (after_item xs o k c)
array_judged xs o k class.Comma g s = (good_more (suc (length k)) xs o s.0 g, s.1, s.2)
array_judged xs o k class.CloseArray g s = (subst (IsGood (length k)) (sym (array_is xs o)) (array_closed (length k) xs (json_of o) s.0 g s.1), s.2)
array_judged xs o k c g s = tt

object_judged : (ms : Gathered) (n : List ℕ) (o : OJson) (k : Frames) (c : Class) → IsGood (suc (length k)) (json_of o) → IsSound (frame.object ms n ∷ k) → Judged (stays (after_member ms n o c) k)
object_judged ms n o k class.Comma g s =
    (good_more_members (suc (length k)) ms n o s.0 g, subst AreDistinct (sym (named_more ms n o)) (distinct_more n (named ms) s.1 (has_none n ms s.2)), s.3, s.4)
object_judged ms n o k class.CloseObject g s = (subst (IsGood (length k)) (sym (object_is ms n o)) (object_closed (length k) ms n (json_of o) s.0 s.1 s.2 g s.3), s.4)
object_judged ms n o k c g s = tt

after_judged : (o : OJson) (k : Frames) (c : Class) → IsGood (length k) (json_of o) → IsSound k → Judged (after o k c)
after_judged o [] class.Blank g s = (g, s)
after_judged o [] c g s = tt
after_judged o (frame.array xs ∷ k) class.Blank g s = (g, s)
after_judged o (frame.array xs ∷ k) c g s = array_judged xs o k c g s
after_judged o (frame.object ms n ∷ k) class.Blank g s = (g, s)
after_judged o (frame.object ms n ∷ k) c g s = object_judged ms n o k c g s

first_judged : (at : ℕ) (k : Frames) (c : Class) → suc (length k) ≤ 256 → IsSound k → Judged (stays (name_first at c) k)
first_judged at k class.Blank le s = (le, s)
first_judged at k class.CloseObject le s = (subst (IsGood (length k)) (sym (json_of_object [])) (omega arith, (tt, tt)), s)
first_judged at k class.Quote le s = (tt, (tt, tt, le, s))
first_judged at k c le s = tt

name_judged : (at : ℕ) (ms : Gathered) (k : Frames) (c : Class) → IsOpen ms k → Judged (stays (name_next at ms c) k)
name_judged at ms k class.Blank s = s
name_judged at ms k class.Quote s = (tt, s)
name_judged at ms k c s = tt

colon_judged : (ms : Gathered) (n : List ℕ) (k : Frames) (c : Class) → IsOpen ms k → has_name n ms ≡ false → Judged (colon_next ms n k c)
colon_judged ms n k class.Blank s e = (s, e)
colon_judged ms n k class.Colon s e = (s.0, s.1, e, s.2, s.3)
colon_judged ms n k c s e = tt

pub word_good : (x : Word) (d : ℕ) → d ≤ 256 → IsGood d (json_of (word_value x))
word_good word.Null d le = simple_good d (json_of (word_value word.Null)) null le json_of_null refl tt
word_good word.True d le = simple_good d (json_of (word_value word.True)) (boolean true) le (json_of_bool true) refl tt
word_good word.False d le = simple_good d (json_of (word_value word.False)) (boolean false) le (json_of_bool false) refl tt

short_words : (x : Word) → length (word_bytes x) < 8
short_words word.Null = omega arith
short_words word.True = omega arith
short_words word.False = omega arith

judged_cond : (x y : Outcome) (t : Bool) → (t ≡ true → Judged x) → (t ≡ false → Judged y) → Judged (cond t x y)
judged_cond x y true f g = f refl
judged_cond x y false f g = g refl

word_judged : (x : Word) (i : ℕ) (k : Frames) (b : ℕ) → IsSound k → Judged (word_next x i k b)
word_judged x i k b s =
    judged_cond _ _ (nat_lt i (length (word_bytes x))) (λ e. judged_cond (goes fine (state.word x (i + 1)) k) stuck (get_or (word_bytes x) i 0 == b)
    (λ f. let lt = ltb-true i (length (word_bytes x)) e in let short = short_words x in (omega arith, s)) (λ f. tt))
    (λ e. after_judged (word_value x) k (class_of b) (word_good x (length k) (few_open k s)) s)

number_judged : (p : Part) (s : List ℕ) (k : Frames) (b : ℕ) (o : Option Part) → IsSound k → Judged (number_part p s k b o)
number_judged p s k b (Some q) h = h
number_judged p s k b None h =
    judged_cond (after (json.Num s) k (class_of b)) stuck (part_ends p)
    (λ e. after_judged (json.Num s) k (class_of b) (simple_good (length k) (json_of (json.Num s)) (number s) (few_open k h) (json_of_num s) refl tt) h) (λ e. tt)

-- ---- within strings
abbrev pub PieceWithin : Option Piece → Type 0
PieceWithin None = Unit {0}
PieceWithin (Some (reading e s)) = IsWithin e
PieceWithin (Some (finished s)) = Unit {0}

piece_cond : (x y : Option Piece) (t : Bool) → (t ≡ true → PieceWithin x) → (t ≡ false → PieceWithin y) → PieceWithin (cond t x y)
piece_cond x y true f g = f refl
piece_cond x y false f g = g refl

short_within : (s : List ℕ) (o : Option ℕ) → PieceWithin (shorted s o)
short_within s None = tt
short_within s (Some c) = tt

digit_within : (e : Escape) (s : List ℕ) (d : ℕ) → IsWithin e → d < 16 → PieceWithin (digit_piece e s d)
digit_within Plain s d is lt = tt
digit_within Backslash s d is lt = tt
digit_within First s d is lt = lt
digit_within (Second n) s d is lt =
    piece_cond _ _ (nat_lt (n * 16 + d) 220) (λ e. inl (ltb-true (n * 16 + d) 220 e)) (λ e. piece_cond _ _ (nat_lt (n * 16 + d) 224) (λ f. tt) (λ f. inr (ltb-false (n * 16 + d) 224 f, omega arith)))
digit_within (Third n) s d (inl h) lt = inl (omega arith)
digit_within (Third n) s d (inr h) lt = inr (omega arith, omega arith)
digit_within (Fourth n) s d is lt =
    let u = n * 16 + d in
    piece_cond _ _ (nat_lt u 55296) (λ e. tt) (λ e. piece_cond _ _ (nat_lt u 56320) (λ f. (ltb-false u 55296 e, ltb-true u 56320 f)) (λ f. piece_cond _ _ (nat_lt u 57344) (λ g. tt) (λ g. tt)))
digit_within (High h) s d is lt = tt
digit_within (HighBackslash h) s d is lt = tt
digit_within (LowFirst h) s d is lt = piece_cond _ _ (d == 13) (λ e. is) (λ e. tt)
digit_within (LowSecond h) s d is lt = piece_cond _ _ (nat_lt d 12) (λ e. tt) (λ e. let ge = ltb-false d 12 e in (is, omega arith, omega arith))
digit_within (LowThird h n) s d is lt = (is.0, omega (arith, is.1, is.2), omega (arith, is.1, is.2))
digit_within (LowFourth h n) s d is lt = tt

hex_within : (e : Escape) (s : List ℕ) (b : ℕ) → IsWithin e → PieceWithin (hex_piece e s b)
hex_within e s b is = piece_cond (digit_piece e s (digit_value b)) None (nat_lt (digit_value b) 16) (λ t. digit_within e s (digit_value b) is (ltb-true (digit_value b) 16 t)) (λ t. tt)

pub within : (e : Escape) (s : List ℕ) (b : ℕ) → IsWithin e → PieceWithin (next_piece e s b)
within Plain s b is = piece_cond _ _ (b == 34) (λ e. tt) (λ e. piece_cond _ _ (b == 92) (λ f. tt) (λ f. piece_cond None (Some (reading Plain (s ++ b ∷ []))) (nat_lt b 32) (λ g. tt) (λ g. tt)))
within Backslash s b is = piece_cond _ _ (b == 117) (λ e. tt) (λ e. short_within s (short_of b))
within First s b is = hex_within First s b is
within (Second n) s b is = hex_within (Second n) s b is
within (Third n) s b is = hex_within (Third n) s b is
within (Fourth n) s b is = hex_within (Fourth n) s b is
within (High h) s b is = piece_cond _ _ (b == 92) (λ e. is) (λ e. tt)
within (HighBackslash h) s b is = piece_cond _ _ (b == 117) (λ e. is) (λ e. tt)
within (LowFirst h) s b is = hex_within (LowFirst h) s b is
within (LowSecond h) s b is = hex_within (LowSecond h) s b is
within (LowThird h n) s b is = hex_within (LowThird h n) s b is
within (LowFourth h n) s b is = hex_within (LowFourth h n) s b is

closed_judged : (s : List ℕ) (r : Role) (k : Frames) → RoleSound r k → Judged (closed s r k)
closed_judged s role.value k h = (simple_good (length k) (json_of (json.Text s)) (string s) (few_open k h) (json_of_text s) refl tt, h)
closed_judged s (role.name p ms) k h = by (has_name s ms) refl
  where
    by : (t : Bool) → has_name s ms ≡ t → Judged (goes (cond t (repeated p) fine) (state.colon ms s) k)
    by true e = (h, e)
    by false e = (h, e)

text_judged : (r : Role) (k : Frames) (o : Option Piece) → PieceWithin o → RoleSound r k → Judged (text_piece r k o)
text_judged r k None is h = tt
text_judged r k (Some (reading e s)) is h = (is, h)
text_judged r k (Some (finished s)) is h = closed_judged s r k h

pub judged : (at : ℕ) (s : State) (k : Frames) (b : ℕ) → StateSound s k → Judged (next at s k b)
judged at state.value k b s = value_judged k b (class_of b) s
judged at state.first_item k b s = item_judged k b (class_of b) s.0 s.1
judged at (state.after o) k b s = after_judged o k (class_of b) s.0 s.1
judged at state.first_name k b s = first_judged at k (class_of b) s.0 s.1
judged at (state.name ms) k b s = name_judged at ms k (class_of b) s
judged at (state.colon ms n) k b s = colon_judged ms n k (class_of b) s.0 s.1
judged at (state.word x i) k b s = word_judged x i k b s.1
judged at (state.number p t) k b s = number_judged p t k b (part_next p (class_of b)) s
judged at (state.text e t r) k b s = text_judged r k (next_piece e t b) (within e t b s.0) s.1
