-- What the bytes that were read so far lead to, and what follows for the whole.
use Rattle.std.proofs.Common.{◌≡◌, ℕ, suc, zero, ◌+◌, ◌-◌, ◌*◌, ◌<◌, ◌≤◌, ◌⊎◌, inl, inr, List, [], ◌∷◌, ◌++◌, length, get_or, take, drop, Bool, true, false, cond, ◌==◌, nat_lt, Option, Some, None, refl, sym, ap, subst, ◌∙◌, ◌↔◌, arith}
use Rattle.std.proofs.lemmas.List.{append_assoc, append-nil, take_more, take_all, take-append-drop, take-take}
use Rattle.std.proofs.lemmas.Slice.Eq.{bytes_eq-Decides}
use Rattle.std.specs.Str.{IsUtf8, bytes_eq}
use Rattle.ts_ojson.specs.Frames as frame
use Rattle.ts_ojson.specs.States.{State}
use Rattle.ts_ojson.specs.States as state
use Rattle.ts_ojson.specs.declared.value.OJson.{OJson}
use Rattle.ts_ojson.specs.declared.value.OJson.TheVariants as json
use Rattle.ts_ojson.specs.Json.{Json, null, number, array, object, Items, no_items, item, Members, no_members, member, json_of, depth, items_depth, members_depth, names, IsNone, AreDistinct, HasDistinctNames, ItemsHaveDistinctNames, MembersHaveDistinctNames}
use Rattle.ts_ojson.specs.Text.{IsJsonText}
use Rattle.ts_ojson.specs.Gathered.{has_name}
use Rattle.ts_ojson.specs.Reads.{Reads, Begins, IsAny, IsKept, IsSyntaxFault, IsDeepFault, IsDuplicateFault}
use Rattle.ts_ojson.specs.Machine.{Frames, Gathered, part_ends, word_bytes, word_value, fine, too_deep, repeated, Outcome, stuck, goes, next, on_byte, outcome, ended}
use Rattle.ts_ojson.specs.Places.{Reaches, Ends, IsStuck, IsDeep, IsTaken}
use Rattle.std.proofs.lemmas.Bool.{ltb-true, ltb-false}
use Rattle.ts_ojson.proofs.JsonLemmas.{json_of_num}
use Rattle.ts_ojson.proofs.Meaning.{onto_items, onto_members, Rest, Coloned, Completes, Means}
use Rattle.ts_ojson.proofs.StepLemmas.{HasEscape, step_is, start_is}
use Rattle.ts_ojson.proofs.SoundLemmas.{IsGood, AllGood, AllGoodMembers, IsSound, IsOpen, StateSound, IsOpening, IsTwice, Judged, judged, word_good, simple_good}
use Rattle.ts_ojson.proofs.EndLemmas.{EndsAs, ended_is, end_completes}
use Rattle.ts_ojson.proofs.ViableLemmas.{viable}
use Rattle.ts_ojson.proofs.FitLemmas.{OutFits, IsByte, NameStarts, fits}

-- the first bytes of w lead to this outcome
pub record Leads (w : List ℕ) (at : ℕ) (o : Outcome) : Type 0 where
  pub same : (v : Json) (z : List ℕ) → IsJsonText v (take at w ++ z) ↔ Means o v z
  pub sound : Judged o
  pub fit : OutFits w at o

pub leads_start : (w : List ℕ) → Leads w 0 (goes fine state.value [])
leads_start w = record { same = λ v z. start_is v z; sound = tt; fit = tt }

pub has_escape : (s : State) (k : Frames) → StateSound s k → HasEscape s
has_escape state.value k h = tt
has_escape state.first_item k h = tt
has_escape (state.after o) k h = tt
has_escape state.first_name k h = tt
has_escape (state.name ms) k h = tt
has_escape (state.colon ms n) k h = tt
has_escape (state.word x i) k h = tt
has_escape (state.number p s) k h = tt
has_escape (state.text e s r) k h = h.0

-- ---- what was read begins a text that is read
module _ (w : List ℕ) (at : ℕ) (s : State) (k : Frames) (l : Leads w at (goes fine s k)) where
  pub kept : IsKept (take at w)
  kept = let c = viable s k l.sound in (c.1, c.0, (l.same c.0 c.1).1 c.2, ((let d = c.3.0 in omega arith), c.3.1))

  blank_begins : ((v : Json) (z : List ℕ) → Completes s k v z → Completes s k v (10 ∷ z)) → Begins IsAny (take at w ++ 10 ∷ [])
  blank_begins f =
      let c = viable s k l.sound in
      (c.1, c.0, subst (λ (y : List ℕ). IsJsonText c.0 y) (sym (append_assoc (take at w) (10 ∷ []) c.1)) ((l.same c.0 (10 ∷ c.1)).1 (f c.0 c.1 c.2)), tt)

name_starts : (w : List ℕ) (at b : ℕ) (h : IsByte w at b) (s : State) (k : Frames) → Leads w at (goes fine s k) → NameStarts w at b h s
name_starts w at b h state.value k l = tt
name_starts w at b h state.first_item k l = tt
name_starts w at b h (state.after o) k l = tt
name_starts w at b h state.first_name k l = blank_begins w at state.first_name k l (λ v z c. (step_is 0 state.first_name k v 10 z tt).1 c)
name_starts w at b h (state.name ms) k l = blank_begins w at (state.name ms) k l (λ v z c. (step_is 0 (state.name ms) k v 10 z tt).1 c)
name_starts w at b h (state.colon ms n) k l = tt
name_starts w at b h (state.word x i) k l = tt
name_starts w at b h (state.number p t) k l = tt
name_starts w at b h (state.text e t r) k l = l.sound.0

-- ---- one byte more
one_more : (w : List ℕ) (at b : ℕ) → IsByte w at b → (z : List ℕ) → take (at + 1) w ++ z ≡ take at w ++ b ∷ z
one_more w at b h z =
    ap (λ l. l ++ z) (take_more w at 0 h.within) ∙ append_assoc (take at w) (get_or w at 0 ∷ []) z ∙ ap (λ m. take at w ++ m ∷ z) h.byte

pub leads_on : (w : List ℕ) (at b : ℕ) (s : State) (k : Frames) → IsByte w at b → Leads w at (goes fine s k) → Leads w (at + 1) (next at s k b)
leads_on w at b s k h l = record {
  same = λ v z.
      let step = step_is at s k v b z (has_escape s k l.sound) in
      let before = l.same v (b ∷ z) in
      let e = one_more w at b h z in
      ((λ x. step.0 (before.0 (subst (λ (y : List ℕ). IsJsonText v y) e x))), (λ x. subst (λ (y : List ℕ). IsJsonText v y) (sym e) (before.1 (step.1 x))));
  sound = judged at s k b l.sound;
  fit = fits w at b h s k (name_starts w at b h s k l) l.fit;
}

-- ---- no text goes on with the byte
pub syntax_fault : (w : List ℕ) (at b : ℕ) (s : State) (k : Frames) → IsByte w at b → Leads w at (goes fine s k) → Leads w (at + 1) stuck → IsSyntaxFault w at
syntax_fault w at b s k h l m = record {
  utf8 = h.utf8;
  within = (let lt = h.within in omega arith);
  before = kept w at s k l;
  longest = λ q lt le g.
      let n : at + 1 ≤ q = omega arith in
      let e : take (at + 1) w ++ (drop (at + 1) (take q w) ++ g.0) ≡ take q w ++ g.0
      = sym (append_assoc (take (at + 1) w) (drop (at + 1) (take q w)) g.0) ∙ ap (λ y. (y ++ drop (at + 1) (take q w)) ++ g.0) (sym (take-take (at + 1) q w n)) ∙ ap (λ y. y ++ g.0) (take-append-drop (at + 1) (take q w)) in
      (m.same g.1 (drop (at + 1) (take q w) ++ g.0)).0 (subst (λ (y : List ℕ). IsJsonText g.1 y) (sym e) g.2);
  no_text = λ j x. (m.same j (drop (at + 1) w)).0 (subst (λ (y : List ℕ). IsJsonText j y) (sym (take-append-drop (at + 1) w)) x);
}

whole : (w : List ℕ) (at : ℕ) → at ≡ length w → take at w ++ [] ≡ w
whole w at e = append-nil (take at w) ∙ take_all at w (omega arith)

pub end_fault : (w : List ℕ) (at : ℕ) (s : State) (k : Frames) → IsUtf8 w → at ≡ length w → Leads w at (goes fine s k) → ended s k ≡ None → IsSyntaxFault w at
end_fault w at s k u e l none = record {
  utf8 = u;
  within = omega arith;
  before = kept w at s k l;
  longest = λ q lt le g. omega arith;
  no_text = λ j x.
      let c = ended_is s k j ((l.same j []).0 (subst (λ (y : List ℕ). IsJsonText j y) (sym (whole w at e)) x)) in
      let differ : None ≡ Some c.0 = sym none ∙ c.1 in cc;
}

-- ---- the end
ended_good : (s : State) (k : Frames) (o : OJson) → ended s k ≡ Some o → StateSound s k → IsGood 0 (json_of o)
ended_good s (f ∷ k) o e h = cc
ended_good state.value [] o e h = cc
ended_good state.first_item [] o e h = cc
ended_good (state.after j) [] o e h = let is : j ≡ o = cc in subst (λ (x : OJson). IsGood 0 (json_of x)) is h.0
ended_good state.first_name [] o e h = cc
ended_good (state.name ms) [] o e h = cc
ended_good (state.colon ms n) [] o e h = cc
ended_good (state.word x i) [] o e h = by (nat_lt i (length (word_bytes x))) e
  where
    by : (t : Bool) → cond t None (Some (word_value x)) ≡ Some o → IsGood 0 (json_of o)
    by true d = cc
    by false d = let is : word_value x ≡ o = cc in subst (λ (y : OJson). IsGood 0 (json_of y)) is (word_good x 0 (omega arith))
ended_good (state.number p s) [] o e h = by (part_ends p) e
  where
    by : (t : Bool) → cond t (Some (json.Num s)) None ≡ Some o → IsGood 0 (json_of o)
    by true d = let is : json.Num s ≡ o = cc in subst (λ (y : OJson). IsGood 0 (json_of y)) is (simple_good 0 (json_of (json.Num s)) (number s) (omega arith) (json_of_num s) refl tt)
    by false d = cc
ended_good (state.text i s r) [] o e h = cc

pub reads_whole : (w : List ℕ) (at : ℕ) (s : State) (k : Frames) (o : OJson) → IsUtf8 w → at ≡ length w → Leads w at (goes fine s k) → ended s k ≡ Some o → Reads o w
reads_whole w at s k o u e l is =
    let good = ended_good s k o is l.sound in
    record {
      utf8 = u;
      text = subst (λ (y : List ℕ). IsJsonText (json_of o) y) (whole w at e) ((l.same (json_of o) []).1 (end_completes s k o is));
      shallow = (let d = good.0 in omega arith);
      distinct = good.1;
    }

-- ---- too deep
item_deep : (xs : List OJson) (j : Json) (m : Items) → depth j ≤ items_depth (onto_items xs (item j m))
item_deep [] j m = omega arith
item_deep (x ∷ xs) j m = let le = item_deep xs j m in omega arith

member_deep : (ms : Gathered) (n : List ℕ) (j : Json) (m : Members) → depth j ≤ members_depth (onto_members ms (member n j m))
member_deep [] n j m = omega arith
member_deep (x ∷ xs) n j m = let le = member_deep xs n j m in omega arith

rest_deep : (k : Frames) (j v : Json) (r : List ℕ) → Rest k j v r → depth j + length k ≤ depth v
rest_deep [] j v r h = let e = ap depth h.0 in omega arith
rest_deep (frame.array xs ∷ k) j v r (a, m, t, bl, more, h) = let le = rest_deep k (array (onto_items xs (item j m))) v t h in let in_it = item_deep xs j m in omega arith
rest_deep (frame.object ms n ∷ k) j v r (a, m, t, bl, more, h) = let le = rest_deep k (object (onto_members ms (member n j m))) v t h in let in_it = member_deep ms n j m in omega arith

pub opening_deep : (s : State) (k : Frames) (v : Json) (z : List ℕ) → IsOpening s k → Completes s k v z → 256 < depth v
opening_deep state.first_item k v z le (m, t, x, h) = let d = rest_deep k (array m) v t h in omega arith
opening_deep state.first_name k v z le (m, t, x, h) = let d = rest_deep k (object m) v t h in omega arith
opening_deep state.value k v z le h = absurd le
opening_deep (state.after o) k v z le h = absurd le
opening_deep (state.name ms) k v z le h = absurd le
opening_deep (state.colon ms n) k v z le h = absurd le
opening_deep (state.word x i) k v z le h = absurd le
opening_deep (state.number p s) k v z le h = absurd le
opening_deep (state.text e s r) k v z le h = absurd le

-- any value can be closed
rest_any : (k : Frames) (j : Json) → (v : Json) × (r : List ℕ) × Rest k j v r
rest_any [] j = (j, [], (refl, refl))
rest_any (frame.array xs ∷ k) j = let c = rest_any k (array (onto_items xs (item j no_items))) in (c.0, 93 ∷ c.1, (93 ∷ c.1, no_items, c.1, inl refl, refl, c.2))
rest_any (frame.object ms n ∷ k) j = let c = rest_any k (object (onto_members ms (member n j no_members))) in (c.0, 125 ∷ c.1, (125 ∷ c.1, no_members, c.1, inl refl, refl, c.2))

opening_any : (s : State) (k : Frames) → IsOpening s k → (v : Json) × (z : List ℕ) × Completes s k v z
opening_any state.first_item k le = let c = rest_any k (array no_items) in (c.0, 93 ∷ c.1, (no_items, c.1, inl refl, c.2))
opening_any state.first_name k le = let c = rest_any k (object no_members) in (c.0, 125 ∷ c.1, (no_members, c.1, inl refl, c.2))
opening_any state.value k le = absurd le
opening_any (state.after o) k le = absurd le
opening_any (state.name ms) k le = absurd le
opening_any (state.colon ms n) k le = absurd le
opening_any (state.word x i) k le = absurd le
opening_any (state.number p s) k le = absurd le
opening_any (state.text e s r) k le = absurd le

pub deep_fault : (w : List ℕ) (at b : ℕ) (s q : State) (k i : Frames) → IsByte w at b → Leads w at (goes fine s k) → Leads w (at + 1) (goes too_deep q i) → IsDeepFault w at
deep_fault w at b s q k i h l m = record {
  utf8 = h.utf8;
  within = h.within;
  before = kept w at s k l;
  begins = (let c = opening_any q i m.sound in (c.1, c.0, (m.same c.0 c.1).1 c.2, tt));
  deep = λ g. let d = opening_deep q i g.1 g.0 m.sound ((m.same g.1 g.0).0 g.2) in let le = g.3 in omega arith;
}

-- ---- a name twice
item_distinct : (xs : List OJson) (j : Json) (m : Items) → ItemsHaveDistinctNames (onto_items xs (item j m)) → HasDistinctNames j
item_distinct [] j m h = h.0
item_distinct (x ∷ xs) j m h = item_distinct xs j m h.1

member_distinct : (ms : Gathered) (n : List ℕ) (j : Json) (m : Members) → MembersHaveDistinctNames (onto_members ms (member n j m)) → HasDistinctNames j
member_distinct [] n j m h = h.0
member_distinct (x ∷ xs) n j m h = member_distinct xs n j m h.1

rest_distinct : (k : Frames) (j v : Json) (r : List ℕ) → Rest k j v r → HasDistinctNames v → HasDistinctNames j
rest_distinct [] j v r h d = subst HasDistinctNames h.0 d
rest_distinct (frame.array xs ∷ k) j v r (a, m, t, bl, more, h) d = item_distinct xs j m (rest_distinct k (array (onto_items xs (item j m))) v t h d)
rest_distinct (frame.object ms n ∷ k) j v r (a, m, t, bl, more, h) d = member_distinct ms n j m (rest_distinct k (object (onto_members ms (member n j m))) v t h d).1

-- a name that an object has, and has again, is one too many
none_again : (k n : List ℕ) (ms : Gathered) (j : Json) (m : Members) → IsNone k (names (onto_members ms (member n j m))) → k ≡ n → ⊥
none_again k n [] j m h e = h.0 e
none_again k n (x ∷ xs) j m h e = none_again k n xs j m h.1 e

twice_names : (n : List ℕ) (ms : Gathered) (j : Json) (m : Members) → has_name n ms ≡ true → AreDistinct (names (onto_members ms (member n j m))) → ⊥
twice_names n [] j m e d = cc
twice_names n (x ∷ xs) j m e d = by (bytes_eq n x.0) refl e (λ f. twice_names n xs j m f d.1)
  where
    by : (t : Bool) → bytes_eq n x.0 ≡ t → Rattle.std.proofs.Common.◌||◌ t (has_name n xs) ≡ true → (has_name n xs ≡ true → ⊥) → ⊥
    by true f g inner = none_again x.0 n xs j m d.0 (sym ((bytes_eq-Decides n x.0).0 f))
    by false f g inner = inner g

pub twice_not : (s : State) (k : Frames) (v : Json) (z : List ℕ) → IsTwice s k → Completes s k v z → HasDistinctNames v → ⊥
twice_not (state.colon ms n) k v z e (u, bl, (a, j, b, first, x, (d, m, t, last, more, h))) is = twice_names n ms j m e.1 (rest_distinct k (object (onto_members ms (member n j m))) v t h is).0
twice_not state.value k v z e h is = absurd e
twice_not state.first_item k v z e h is = absurd e
twice_not (state.after o) k v z e h is = absurd e
twice_not state.first_name k v z e h is = absurd e
twice_not (state.name ms) k v z e h is = absurd e
twice_not (state.word x i) k v z e h is = absurd e
twice_not (state.number p s) k v z e h is = absurd e
twice_not (state.text i s r) k v z e h is = absurd e

-- depth alone, where names may stand twice
items_flat : (d : ℕ) (xs : List OJson) (j : Json) → AllGood (suc d) xs → depth j + suc d ≤ 256 → suc d ≤ 256 → items_depth (onto_items xs (item j no_items)) + suc d ≤ 256
items_flat d [] j all g le = omega arith
items_flat d (x ∷ xs) j all g le = let rest = items_flat d xs j all.1 g le in let here = all.0.0 in omega arith

members_flat : (d : ℕ) (ms : Gathered) (n : List ℕ) (j : Json) → AllGoodMembers (suc d) ms → depth j + suc d ≤ 256 → suc d ≤ 256 → members_depth (onto_members ms (member n j no_members)) + suc d ≤ 256
members_flat d [] n j all g le = omega arith
members_flat d (x ∷ xs) n j all g le = let rest = members_flat d xs n j all.1 g le in let here = all.0.0 in omega arith

rest_flat : (k : Frames) (j : Json) → IsSound k → depth j + length k ≤ 256 → (v : Json) × (r : List ℕ) × Rest k j v r × (depth v ≤ 256)
rest_flat [] j s le = (j, [], (refl, refl), omega arith)
rest_flat (frame.array xs ∷ k) j s le =
    let flat = items_flat (length k) xs j s.0 le s.1 in
    let c = rest_flat k (array (onto_items xs (item j no_items))) s.2 (omega arith) in
    (c.0, 93 ∷ c.1, (93 ∷ c.1, no_items, c.1, inl refl, refl, c.2), c.3)
rest_flat (frame.object ms n ∷ k) j s le =
    let flat = members_flat (length k) ms n j s.0 le s.3 in
    let c = rest_flat k (object (onto_members ms (member n j no_members))) s.4 (omega arith) in
    (c.0, 125 ∷ c.1, (125 ∷ c.1, no_members, c.1, inl refl, refl, c.2), c.3)

colon_flat : (ms : Gathered) (n : List ℕ) (k : Frames) → IsOpen ms k → (v : Json) × (z : List ℕ) × Coloned ms n k v z × (depth v ≤ 256)
colon_flat ms n k s =
    let le = s.2 in
    let flat = members_flat (length k) ms n null s.0 (omega arith) s.2 in
    let c = rest_flat k (object (onto_members ms (member n null no_members))) s.3 (omega arith) in
    let r = 125 ∷ c.1 in
    (c.0, 58 ∷ 110 ∷ 117 ∷ 108 ∷ 108 ∷ r, (110 ∷ 117 ∷ 108 ∷ 108 ∷ r, inl refl, (110 ∷ 117 ∷ 108 ∷ 108 ∷ r, null, r, inl refl, refl, (r, no_members, c.1, inl refl, refl, c.2))), c.3)

pub duplicate_fault : (w : List ℕ) (at b p : ℕ) (s q : State) (k i : Frames) → IsByte w at b → Leads w at (goes fine s k) → Leads w (at + 1) (goes (repeated p) q i) → IsDuplicateFault w p
duplicate_fault w at b p s (state.colon ms n) k i h l m = record {
  utf8 = h.utf8;
  close = at;
  within = (let lt = m.fit.before in omega arith, h.within);
  name = n;
  string = m.fit.reads;
  starts = m.fit.starts;
  before = kept w at s k l;
  begins = (let c = colon_flat ms n i m.sound.0 in (c.1, c.0, (m.same c.0 c.1).1 c.2, c.3));
  twice = λ g. twice_not (state.colon ms n) i g.1 g.0 m.sound ((m.same g.1 g.0).0 g.2) g.3;
}
duplicate_fault w at b p s state.value k i h l m = let no_way : ⊥ = m.sound in absurd no_way
duplicate_fault w at b p s state.first_item k i h l m = let no_way : ⊥ = m.sound in absurd no_way
duplicate_fault w at b p s (state.after o) k i h l m = let no_way : ⊥ = m.sound in absurd no_way
duplicate_fault w at b p s state.first_name k i h l m = let no_way : ⊥ = m.sound in absurd no_way
duplicate_fault w at b p s (state.name ms) k i h l m = let no_way : ⊥ = m.sound in absurd no_way
duplicate_fault w at b p s (state.word x j) k i h l m = let no_way : ⊥ = m.sound in absurd no_way
duplicate_fault w at b p s (state.number x t) k i h l m = let no_way : ⊥ = m.sound in absurd no_way
duplicate_fault w at b p s (state.text e t r) k i h l m = let no_way : ⊥ = m.sound in absurd no_way

-- ---- one value at most
pub one_end : (s : State) (k : Frames) (v u : Json) → EndsAs s k v → EndsAs s k u → v ≡ u
one_end s k v u g h =
    let same : g.0 ≡ h.0 = cc (g.1, h.1) in
    g.2 ∙ ap json_of same ∙ sym h.2

-- ---- what the machine's outcomes tell
abbrev FineLeads : List ℕ → ℕ → Outcome → Type 0
FineLeads w at stuck = Unit {0}
FineLeads w at (goes fine s k) = Leads w at (goes fine s k)
FineLeads w at (goes too_deep s k) = Unit {0}
FineLeads w at (goes (repeated p) s k) = Unit {0}

if_fine : (w : List ℕ) (at : ℕ) (o : Outcome) → Leads w at o → FineLeads w at o
if_fine w at stuck l = tt
if_fine w at (goes fine s k) l = l
if_fine w at (goes too_deep s k) l = tt
if_fine w at (goes (repeated p) s k) l = tt

fine_on : (w : List ℕ) (at : ℕ) (o : Outcome) → IsUtf8 w → at < length w → FineLeads w at o → FineLeads w (suc at) (on_byte at (get_or w at 0) o)
fine_on w at stuck u lt l = tt
fine_on w at (goes fine s k) u lt l =
    let e : at + 1 ≡ suc at = omega arith in
    if_fine w (suc at) (next at s k (get_or w at 0)) (subst (λ (n : ℕ). Leads w n (next at s k (get_or w at 0))) e (leads_on w at (get_or w at 0) s k (record { utf8 = u; within = lt; byte = refl }) l))
fine_on w at (goes too_deep s k) u lt l = tt
fine_on w at (goes (repeated p) s k) u lt l = tt

fine_at : (w : List ℕ) → IsUtf8 w → (at : ℕ) → at ≤ length w → FineLeads w at (outcome w at)
fine_at w u zero le = leads_start w
fine_at w u (suc at) le = fine_on w at (outcome w at) u (omega arith) (fine_at w u at (omega arith))

pub state_leads : (w : List ℕ) (at : ℕ) (s : State) (k : Frames) → IsUtf8 w → Reaches w at s k → Leads w at (goes fine s k)
state_leads w at s k u h = subst (FineLeads w at) h.leads (fine_at w u at h.within)

pub stuck_is : (w : List ℕ) (at : ℕ) → IsUtf8 w → IsStuck w at → IsSyntaxFault w at
stuck_is w at u h = by (state_leads w at h.state h.inner u h.reached) (nat_lt at (length w)) refl
  where
    by : Leads w at (goes fine h.state h.inner) → (t : Bool) → nat_lt at (length w) ≡ t → IsSyntaxFault w at
    by l true e =
        let lt = ltb-true at (length w) e in
        let b = get_or w at 0 in
        let is : IsByte w at b = record { utf8 = u; within = lt; byte = refl } in
        syntax_fault w at b h.state h.inner is l (subst (Leads w (at + 1)) (h.next lt) (leads_on w at b h.state h.inner is l))
    by l false e =
        let ge = ltb-false at (length w) e in
        let le = h.reached.within in
        let here : at ≡ length w = omega arith in
        end_fault w at h.state h.inner u here l (h.last here)

pub deep_is : (w : List ℕ) (at : ℕ) → IsUtf8 w → IsDeep w at → IsDeepFault w at
deep_is w at u h =
    let l = state_leads w at h.state h.inner u h.reached in
    let b = get_or w at 0 in
    let is : IsByte w at b = record { utf8 = u; within = h.within; byte = refl } in
    deep_fault w at b h.state h.to h.inner h.around is l (subst (Leads w (at + 1)) h.next (leads_on w at b h.state h.inner is l))

pub taken_is : (w : List ℕ) (p : ℕ) → IsUtf8 w → IsTaken w p → IsDuplicateFault w p
taken_is w p u h =
    let l = state_leads w h.close h.state h.inner u h.reached in
    let b = get_or w h.close 0 in
    let is : IsByte w h.close b = record { utf8 = u; within = h.within; byte = refl } in
    duplicate_fault w h.close b p h.state h.to h.inner h.around is l (subst (Leads w (h.close + 1)) h.next (leads_on w h.close b h.state h.inner is l))

pub ends_whole : (w : List ℕ) (at : ℕ) (v : OJson) → IsUtf8 w → at ≡ length w → Ends w at v [] → Reads v w
ends_whole w at v u e h = reads_whole w at h.state [] v u e (state_leads w at h.state [] u h.reached) (h.last e)

pub starts_whole : (w : List ℕ) → Reaches w 0 state.value []
starts_whole w = record { within = omega arith; leads = refl }
