-- From what the bytes before a place lead to, to what those before a later place do.
use Rattle.std.proofs.Common.{◌≡◌, ℕ, zero, suc, ◌+◌, ◌-◌, ◌<◌, ◌≤◌, List, [], ◌∷◌, ◌++◌, length, get_or, take, drop, Bool, true, false, cond, ◌==◌, nat_lt, Some, None, refl, sym, ap, subst, ◌∙◌, arith}
use Rattle.std.proofs.lemmas.Bool.{ltb-true, ltb-false, lt-ltb, le-ltb, eqb-true, eqb-false}
use Rattle.std.proofs.lemmas.List.{append_assoc, append-nil, take_more, length-drop, get_or-drop}
use Rattle.std.specs.Str.{IsUtf8, IsCharBoundary}
use Rattle.std.proofs.lemmas.Str.{IsCharBoundary-after_ascii}
use Rattle.ts_base.specs.Bytes.{Bytes}
use Rattle.ts_ojson.specs.declared.class.Class.{Class}
use Rattle.ts_ojson.specs.declared.class.Class.TheVariants as class
use Rattle.ts_ojson.specs.declared.part.Part.{Part}
use Rattle.ts_ojson.specs.declared.escape.Escape.{Escape}
use Rattle.ts_ojson.specs.declared.escape.Escape.TheVariants.{Plain, Backslash}
use Rattle.ts_ojson.specs.declared.word.Word.{Word}
use Rattle.ts_ojson.specs.declared.value.OJson.{OJson}
use Rattle.ts_ojson.specs.declared.value.OJson.TheVariants as json
use Rattle.ts_ojson.specs.Characters.{IsRaw}
use Rattle.ts_ojson.specs.Gathered.{has_name}
use Rattle.ts_ojson.specs.Pieces.{reading, finished}
use Rattle.ts_ojson.specs.Strings.{plain_piece, next_piece}
use Rattle.ts_ojson.specs.Roles.{Role}
use Rattle.ts_ojson.specs.Roles as role
use Rattle.ts_ojson.specs.Frames.{Frame}
use Rattle.ts_ojson.specs.Frames as frame
use Rattle.ts_ojson.specs.States.{State}
use Rattle.ts_ojson.specs.States as state
use Rattle.ts_ojson.specs.Machine.{Frames, Gathered, class_of, part_next, part_ends, word_bytes, word_value, stuck, goes, fine, too_deep, repeated, stays, opens, begin_class, value_class, after, item_first_class, name_first, name_next, colon_next, number_part, closed, text_piece, text_next, next, on_byte, outcome, ended_in, ended}
use Rattle.ts_ojson.specs.Places.{between, byte_there, class_there, part_there, AreBlank, NoBlank, ArePlain, NoPlain, Reaches, Ends, Starts, Named, IsStuck, IsDeep, IsTaken}
use Rattle.ts_ojson.proofs.ClassLemmas.{IsKnown, class_ascii, part_known}

-- ---- what stands at a place
some_same : {A : Type 0} (x y : A) → Some x ≡ Some y → x ≡ y
some_same x y e = cc

not_some : {A : Type 0} (x : A) → None ≡ Some x → ⊥
not_some x e = cc

module _ {A : Type 0} (w : Bytes) (at : ℕ) (x y : A) where
  there_within : cond (nat_lt at (length w)) (Some x) None ≡ Some y → (at < length w) × (x ≡ y)
  there_within e = by (nat_lt at (length w)) refl e
    where
      by : (t : Bool) → nat_lt at (length w) ≡ t → cond t (Some x) None ≡ Some y → (at < length w) × (x ≡ y)
      by true f g = (ltb-true at (length w) f, some_same x y g)
      by false f g = absurd (not_some y g)

pub class_here : (w : Bytes) (at : ℕ) (c : Class) → class_there w at ≡ Some c → (at < length w) × (class_of (get_or w at 0) ≡ c)
class_here w at c e = there_within w at (class_of (get_or w at 0)) c e

pub byte_here : (w : Bytes) (at b : ℕ) → byte_there w at ≡ Some b → (at < length w) × (get_or w at 0 ≡ b)
byte_here w at b e = there_within w at (get_or w at 0) b e

pub class_is : (w : Bytes) (at : ℕ) → at < length w → class_there w at ≡ Some (class_of (get_or w at 0))
class_is w at lt = ap (λ t. cond t (Some (class_of (get_or w at 0))) None) (lt-ltb at (length w) lt)

pub byte_is : (w : Bytes) (at : ℕ) → at < length w → byte_there w at ≡ Some (get_or w at 0)
byte_is w at lt = ap (λ t. cond t (Some (get_or w at 0)) None) (lt-ltb at (length w) lt)

pub part_is : (w : Bytes) (at : ℕ) (p : Part) → at < length w → part_there w at p ≡ part_next p (class_of (get_or w at 0))
part_is w at p lt = ap (λ t. cond t (part_next p (class_of (get_or w at 0))) None) (lt-ltb at (length w) lt)

pub part_here : (w : Bytes) (at : ℕ) (p q : Part) → part_there w at p ≡ Some q → (at < length w) × (part_next p (class_of (get_or w at 0)) ≡ Some q)
part_here w at p q e = by (nat_lt at (length w)) refl e
  where
    by : (t : Bool) → nat_lt at (length w) ≡ t → cond t (part_next p (class_of (get_or w at 0))) None ≡ Some q → (at < length w) × (part_next p (class_of (get_or w at 0)) ≡ Some q)
    by true f g = (ltb-true at (length w) f, g)
    by false f g = absurd (not_some q g)

not_class : (w : Bytes) (at : ℕ) (c : Class) → (class_there w at ≡ Some c → ⊥) → at < length w → class_of (get_or w at 0) ≡ c → ⊥
not_class w at c n lt e = n (class_is w at lt ∙ ap Some e)

pub not_ended : (s : State) (k : Frames) → ended_in s ≡ None → ended s k ≡ None
not_ended s [] e = e
not_ended s (f ∷ k) e = refl

-- ---- runs
pub blanks_more : (w : Bytes) (from at : ℕ) → AreBlank w from at → class_there w at ≡ Some class.Blank → AreBlank w from (at + 1)
blanks_more w from at are is = λ i le lt. by i le lt (nat_lt i at) refl
  where
    by : (i : ℕ) → from ≤ i → i < at + 1 → (t : Bool) → nat_lt i at ≡ t → class_there w i ≡ Some class.Blank
    by i le lt true e = are i le (ltb-true i at e)
    by i le lt false e = let ge = ltb-false i at e in let same : at ≡ i = omega arith in subst (λ (n : ℕ). class_there w n ≡ Some class.Blank) same is

-- ---- one byte on
module _ (w : Bytes) where
  pub reach_on : (at : ℕ) (s t : State) (k l : Frames) → Reaches w at s k → at < length w → next at s k (get_or w at 0) ≡ goes fine t l → Reaches w (at + 1) t l
  reach_on at s t k l h lt e =
      let n : suc at ≡ at + 1 = omega arith in
      record { within = omega arith; leads = subst (λ (m : ℕ). outcome w m ≡ goes fine t l) n (ap (on_byte at (get_or w at 0)) h.leads ∙ e) }

  -- ---- blanks
  passed_some : (n from : ℕ) (s : State) (k : Frames) → ((at b : ℕ) → class_of b ≡ class.Blank → next at s k b ≡ goes fine s k) → AreBlank w from (from + n) → Reaches w from s k → Reaches w (from + n) s k
  passed_some zero from s k stay are h = let e : from ≡ from + 0 = omega arith in subst (λ (m : ℕ). Reaches w m s k) e h
  passed_some (suc n) from s k stay are h =
      let here = class_here w from class.Blank (are from (omega arith) (omega arith)) in
      let e : from + 1 + n ≡ from + suc n = omega arith in
      let on = reach_on from s s k k h here.0 (stay from (get_or w from 0) here.1) in
      subst (λ (m : ℕ). Reaches w m s k) e (passed_some n (from + 1) s k stay (λ i le lt. are i (omega arith) (omega arith)) on)

  passed : (from to : ℕ) (s : State) (k : Frames) → ((at b : ℕ) → class_of b ≡ class.Blank → next at s k b ≡ goes fine s k) → from ≤ to → AreBlank w from to → Reaches w from s k → Reaches w to s k
  passed from to s k stay le are h =
      let e : from + (to - from) ≡ to = omega arith in
      subst (λ (m : ℕ). Reaches w m s k) e (passed_some (to - from) from s k stay (subst (AreBlank w from) (sym e) are) h)

  pub pass_value : (from to : ℕ) (k : Frames) → from ≤ to → AreBlank w from to → Reaches w from state.value k → Reaches w to state.value k
  pass_value from to k le are h = passed from to state.value k (λ at b e. ap (value_class k b) e) le are h

  pub pass_item : (from to : ℕ) (k : Frames) → from ≤ to → AreBlank w from to → Reaches w from state.first_item k → Reaches w to state.first_item k
  pass_item from to k le are h = passed from to state.first_item k (λ at b e. ap (item_first_class k b) e) le are h

  pub pass_first : (from to : ℕ) (k : Frames) → from ≤ to → AreBlank w from to → Reaches w from state.first_name k → Reaches w to state.first_name k
  pass_first from to k le are h = passed from to state.first_name k (λ at b e. ap (λ c. stays (name_first at c) k) e) le are h

  pub pass_name : (from to : ℕ) (ms : Gathered) (k : Frames) → from ≤ to → AreBlank w from to → Reaches w from (state.name ms) k → Reaches w to (state.name ms) k
  pass_name from to ms k le are h = passed from to (state.name ms) k (λ at b e. ap (λ c. stays (name_next at ms c) k) e) le are h

  pub pass_colon : (from to : ℕ) (ms : Gathered) (n : Bytes) (k : Frames) → from ≤ to → AreBlank w from to → Reaches w from (state.colon ms n) k → Reaches w to (state.colon ms n) k
  pass_colon from to ms n k le are h = passed from to (state.colon ms n) k (λ at b e. ap (colon_next ms n k) e) le are h

  -- ---- behind a value
  pub ends_after : (at : ℕ) (v : OJson) (k : Frames) → Reaches w at (state.after v) k → Ends w at v k
  ends_after at v k h = record { state = state.after v; reached = h; next = λ lt. refl; last = λ e. refl }

  ends_some : (n from : ℕ) (v : OJson) (k : Frames) → AreBlank w from (from + n) → Ends w from v k → Ends w (from + n) v k
  ends_some zero from v k are h = let e : from ≡ from + 0 = omega arith in subst (λ (m : ℕ). Ends w m v k) e h
  ends_some (suc n) from v k are h =
      let here = class_here w from class.Blank (are from (omega arith) (omega arith)) in
      let on = reach_on from h.state (state.after v) k k h.reached here.0 (h.next here.0 ∙ ap (after v k) here.1) in
      let e : from + 1 + n ≡ from + suc n = omega arith in
      subst (λ (m : ℕ). Ends w m v k) e (ends_after (from + 1 + n) v k (passed_some n (from + 1) (state.after v) k (λ at b e. ap (after v k) e) (λ i le lt. are i (omega arith) (omega arith)) on))

  pub pass_end : (from to : ℕ) (v : OJson) (k : Frames) → from ≤ to → AreBlank w from to → Ends w from v k → Ends w to v k
  pass_end from to v k le are h =
      let e : from + (to - from) ≡ to = omega arith in
      subst (λ (m : ℕ). Ends w m v k) e (ends_some (to - from) from v k (subst (AreBlank w from) (sym e) are) h)

  -- ---- where a value begins
  value_or : (k : Frames) (b : ℕ) (c : Class) → (c ≡ class.Blank → ⊥) → value_class k b c ≡ begin_class k b c
  value_or k b class.Blank n = absurd (n refl)
  value_or k b c n = refl

  item_or : (k : Frames) (b : ℕ) (c : Class) → (c ≡ class.Blank → ⊥) → (c ≡ class.CloseArray → ⊥) → item_first_class k b c ≡ begin_class (frame.array [] ∷ k) b c
  item_or k b class.Blank n m = absurd (n refl)
  item_or k b class.CloseArray n m = absurd (m refl)
  item_or k b c n m = refl

  pub starts_value : (at : ℕ) (k : Frames) → NoBlank w at → Reaches w at state.value k → Starts w at k
  starts_value at k n h = record {
    state = state.value;
    inner = k;
    reached = h;
    next = λ lt. value_or k (get_or w at 0) (class_of (get_or w at 0)) (not_class w at class.Blank n lt);
    last = not_ended state.value k refl;
  }

  pub starts_item : (at : ℕ) (k : Frames) → NoBlank w at → (class_there w at ≡ Some class.CloseArray → ⊥) → Reaches w at state.first_item k → Starts w at (frame.array [] ∷ k)
  starts_item at k n m h = record {
    state = state.first_item;
    inner = k;
    reached = h;
    next = λ lt. item_or k (get_or w at 0) (class_of (get_or w at 0)) (not_class w at class.Blank n lt) (not_class w at class.CloseArray m lt);
    last = not_ended state.first_item k refl;
  }

  pub start_on : (at : ℕ) (k l : Frames) (c : Class) (t : State) → Starts w at k → class_there w at ≡ Some c → begin_class k (get_or w at 0) c ≡ goes fine t l → Reaches w (at + 1) t l
  start_on at k l c t h is e =
      let here = class_here w at c is in
      reach_on at h.state t h.inner l h.reached here.0 (h.next here.0 ∙ ap (begin_class k (get_or w at 0)) here.1 ∙ e)

  too_many : (s : State) (k : Frames) → 256 ≤ length k → opens s k ≡ goes too_deep s k
  too_many s k le = ap (λ t. goes (cond t fine too_deep) s k) (le-ltb (length k) 256 le)

  pub few : (s : State) (k : Frames) → length k < 256 → opens s k ≡ goes fine s k
  few s k lt = ap (λ t. goes (cond t fine too_deep) s k) (lt-ltb (length k) 256 lt)

  pub start_deep : (at : ℕ) (k : Frames) (c : Class) (t : State) → Starts w at k → class_there w at ≡ Some c → begin_class k (get_or w at 0) c ≡ opens t k → 256 ≤ length k → IsDeep w at
  start_deep at k c t h is e le =
      let here = class_here w at c is in
      record {
        state = h.state;
        inner = h.inner;
        reached = h.reached;
        within = here.0;
        to = t;
        around = k;
        next = h.next here.0 ∙ ap (begin_class k (get_or w at 0)) here.1 ∙ e ∙ too_many t k le;
      }

  -- ---- arrays
  end_on : (at : ℕ) (v : OJson) (k l : Frames) (c : Class) (t : State) → Ends w at v k → class_there w at ≡ Some c → after v k c ≡ goes fine t l → Reaches w (at + 1) t l
  end_on at v k l c t h is e = let here = class_here w at c is in reach_on at h.state t k l h.reached here.0 (h.next here.0 ∙ ap (after v k) here.1 ∙ e)

  pub array_none : (at : ℕ) (k : Frames) → Reaches w at state.first_item k → class_there w at ≡ Some class.CloseArray → Ends w (at + 1) (json.Array []) k
  array_none at k h is = let here = class_here w at class.CloseArray is in ends_after (at + 1) (json.Array []) k (reach_on at state.first_item (state.after (json.Array [])) k k h here.0 (ap (item_first_class k (get_or w at 0)) here.1))

  pub array_more : (at : ℕ) (xs : List OJson) (v : OJson) (k : Frames) → Ends w at v (frame.array xs ∷ k) → class_there w at ≡ Some class.Comma → Reaches w (at + 1) state.value (frame.array (xs ++ v ∷ []) ∷ k)
  array_more at xs v k h is = end_on at v (frame.array xs ∷ k) (frame.array (xs ++ v ∷ []) ∷ k) class.Comma state.value h is refl

  pub array_close : (at : ℕ) (xs : List OJson) (v : OJson) (k : Frames) → Ends w at v (frame.array xs ∷ k) → class_there w at ≡ Some class.CloseArray → Ends w (at + 1) (json.Array (xs ++ v ∷ [])) k
  array_close at xs v k h is = ends_after (at + 1) (json.Array (xs ++ v ∷ [])) k (end_on at v (frame.array xs ∷ k) k class.CloseArray (state.after (json.Array (xs ++ v ∷ []))) h is refl)

  array_other : (xs : List OJson) (v : OJson) (k : Frames) (c : Class) → (c ≡ class.Blank → ⊥) → (c ≡ class.CloseArray → ⊥) → (c ≡ class.Comma → ⊥) → after v (frame.array xs ∷ k) c ≡ stuck
  array_other xs v k class.Blank n m o = absurd (n refl)
  array_other xs v k class.CloseArray n m o = absurd (m refl)
  array_other xs v k class.Comma n m o = absurd (o refl)
  array_other xs v k c n m o = refl

  pub array_stuck : (at : ℕ) (xs : List OJson) (v : OJson) (k : Frames) → Ends w at v (frame.array xs ∷ k) → NoBlank w at → (class_there w at ≡ Some class.CloseArray → ⊥) → (class_there w at ≡ Some class.Comma → ⊥) → IsStuck w at
  array_stuck at xs v k h n m o = record {
    state = h.state;
    inner = frame.array xs ∷ k;
    reached = h.reached;
    next = λ lt. h.next lt ∙ array_other xs v k (class_of (get_or w at 0)) (not_class w at class.Blank n lt) (not_class w at class.CloseArray m lt) (not_class w at class.Comma o lt);
    last = λ x. refl;
  }

  whole_or : (v : OJson) (c : Class) → (c ≡ class.Blank → ⊥) → after v [] c ≡ stuck
  whole_or v class.Blank n = absurd (n refl)
  whole_or v c n = refl

  pub whole_stuck : (at : ℕ) (v : OJson) → Ends w at v [] → NoBlank w at → at < length w → IsStuck w at
  whole_stuck at v h n lt = record {
    state = h.state;
    inner = [];
    reached = h.reached;
    next = λ l. h.next l ∙ whole_or v (class_of (get_or w at 0)) (not_class w at class.Blank n l);
    last = λ e. let below = lt in absurd (omega arith);
  }

  -- ---- objects
  pub object_none : (at : ℕ) (k : Frames) → Reaches w at state.first_name k → class_there w at ≡ Some class.CloseObject → Ends w (at + 1) (json.Object []) k
  object_none at k h is = let here = class_here w at class.CloseObject is in ends_after (at + 1) (json.Object []) k (reach_on at state.first_name (state.after (json.Object [])) k k h here.0 (ap (λ c. stays (name_first at c) k) here.1))

  pub object_more : (at : ℕ) (ms : Gathered) (n : Bytes) (v : OJson) (k : Frames) → Ends w at v (frame.object ms n ∷ k) → class_there w at ≡ Some class.Comma → Reaches w (at + 1) (state.name (ms ++ (n, v) ∷ [])) k
  object_more at ms n v k h is = end_on at v (frame.object ms n ∷ k) k class.Comma (state.name (ms ++ (n, v) ∷ [])) h is refl

  pub object_close : (at : ℕ) (ms : Gathered) (n : Bytes) (v : OJson) (k : Frames) → Ends w at v (frame.object ms n ∷ k) → class_there w at ≡ Some class.CloseObject → Ends w (at + 1) (json.Object (ms ++ (n, v) ∷ [])) k
  object_close at ms n v k h is = ends_after (at + 1) (json.Object (ms ++ (n, v) ∷ [])) k (end_on at v (frame.object ms n ∷ k) k class.CloseObject (state.after (json.Object (ms ++ (n, v) ∷ []))) h is refl)

  object_other : (ms : Gathered) (n : Bytes) (v : OJson) (k : Frames) (c : Class) → (c ≡ class.Blank → ⊥) → (c ≡ class.CloseObject → ⊥) → (c ≡ class.Comma → ⊥) → after v (frame.object ms n ∷ k) c ≡ stuck
  object_other ms l v k class.Blank n m o = absurd (n refl)
  object_other ms l v k class.CloseObject n m o = absurd (m refl)
  object_other ms l v k class.Comma n m o = absurd (o refl)
  object_other ms l v k c n m o = refl

  pub object_stuck : (at : ℕ) (ms : Gathered) (l : Bytes) (v : OJson) (k : Frames) → Ends w at v (frame.object ms l ∷ k) → NoBlank w at → (class_there w at ≡ Some class.CloseObject → ⊥) → (class_there w at ≡ Some class.Comma → ⊥) → IsStuck w at
  object_stuck at ms l v k h n m o = record {
    state = h.state;
    inner = frame.object ms l ∷ k;
    reached = h.reached;
    next = λ lt. h.next lt ∙ object_other ms l v k (class_of (get_or w at 0)) (not_class w at class.Blank n lt) (not_class w at class.CloseObject m lt) (not_class w at class.Comma o lt);
    last = λ x. refl;
  }

  -- ---- names
  first_or : (at : ℕ) (k : Frames) (c : Class) → (c ≡ class.Blank → ⊥) → (c ≡ class.CloseObject → ⊥) → stays (name_first at c) k ≡ stays (name_next at [] c) k
  first_or at k class.Blank n m = absurd (n refl)
  first_or at k class.CloseObject n m = absurd (m refl)
  first_or at k class.Quote n m = refl
  first_or at k c n m = refl

  pub named_first : (at : ℕ) (k : Frames) → NoBlank w at → (class_there w at ≡ Some class.CloseObject → ⊥) → Reaches w at state.first_name k → Named w at [] k
  named_first at k n m h = record {
    state = state.first_name;
    reached = h;
    next = λ lt. first_or at k (class_of (get_or w at 0)) (not_class w at class.Blank n lt) (not_class w at class.CloseObject m lt);
    blank = n;
    last = not_ended state.first_name k refl;
  }

  pub named_next : (at : ℕ) (ms : Gathered) (k : Frames) → NoBlank w at → Reaches w at (state.name ms) k → Named w at ms k
  named_next at ms k n h = record { state = state.name ms; reached = h; next = λ lt. refl; blank = n; last = not_ended (state.name ms) k refl }

  pub named_quote : (at : ℕ) (ms : Gathered) (k : Frames) → Named w at ms k → class_there w at ≡ Some class.Quote → Reaches w (at + 1) (state.text Plain [] (role.name at ms)) k
  named_quote at ms k h is =
      let here = class_here w at class.Quote is in
      reach_on at h.state (state.text Plain [] (role.name at ms)) k k h.reached here.0 (h.next here.0 ∙ ap (λ c. stays (name_next at ms c) k) here.1)

  closes : (at : ℕ) (s : Bytes) (r : Role) (k : Frames) → byte_there w at ≡ Some 34 → next at (state.text Plain s r) k (get_or w at 0) ≡ closed s r k
  closes at s r k is = ap (text_next Plain s r k) (byte_here w at 34 is).1

  pub name_taken : (at p : ℕ) (s : Bytes) (ms : Gathered) (k : Frames) → Reaches w at (state.text Plain s (role.name p ms)) k → byte_there w at ≡ Some 34 → has_name s ms ≡ true → IsTaken w p
  name_taken at p s ms k h is e = record {
    close = at;
    state = state.text Plain s (role.name p ms);
    inner = k;
    reached = h;
    within = (byte_here w at 34 is).0;
    to = state.colon ms s;
    around = k;
    next = closes at s (role.name p ms) k is ∙ ap (λ t. goes (cond t (repeated p) fine) (state.colon ms s) k) e;
  }

  pub name_new : (at p : ℕ) (s : Bytes) (ms : Gathered) (k : Frames) → Reaches w at (state.text Plain s (role.name p ms)) k → byte_there w at ≡ Some 34 → has_name s ms ≡ false → Reaches w (at + 1) (state.colon ms s) k
  name_new at p s ms k h is e =
      reach_on at (state.text Plain s (role.name p ms)) (state.colon ms s) k k h (byte_here w at 34 is).0 (closes at s (role.name p ms) k is ∙ ap (λ t. goes (cond t (repeated p) fine) (state.colon ms s) k) e)

  pub text_ends : (at : ℕ) (s : Bytes) (k : Frames) → Reaches w at (state.text Plain s role.value) k → byte_there w at ≡ Some 34 → Ends w (at + 1) (json.Text s) k
  text_ends at s k h is = ends_after (at + 1) (json.Text s) k (reach_on at (state.text Plain s role.value) (state.after (json.Text s)) k k h (byte_here w at 34 is).0 (closes at s role.value k is))

  pub colon_on : (at : ℕ) (ms : Gathered) (n : Bytes) (k : Frames) → Reaches w at (state.colon ms n) k → class_there w at ≡ Some class.Colon → Reaches w (at + 1) state.value (frame.object ms n ∷ k)
  colon_on at ms n k h is = let here = class_here w at class.Colon is in reach_on at (state.colon ms n) state.value k (frame.object ms n ∷ k) h here.0 (ap (colon_next ms n k) here.1)

  colon_or : (ms : Gathered) (l : Bytes) (k : Frames) (c : Class) → (c ≡ class.Blank → ⊥) → (c ≡ class.Colon → ⊥) → colon_next ms l k c ≡ stuck
  colon_or ms l k class.Blank n m = absurd (n refl)
  colon_or ms l k class.Colon n m = absurd (m refl)
  colon_or ms l k c n m = refl

  pub colon_stuck : (at : ℕ) (ms : Gathered) (l : Bytes) (k : Frames) → NoBlank w at → (class_there w at ≡ Some class.Colon → ⊥) → Reaches w at (state.colon ms l) k → IsStuck w at
  colon_stuck at ms l k n m h = record {
    state = state.colon ms l;
    inner = k;
    reached = h;
    next = λ lt. colon_or ms l k (class_of (get_or w at 0)) (not_class w at class.Blank n lt) (not_class w at class.Colon m lt);
    last = λ x. not_ended (state.colon ms l) k refl;
  }

  -- ---- numbers
  pub between_one : (from : ℕ) → from < length w → between w from (from + 1) ≡ get_or w from 0 ∷ []
  between_one from lt =
      let e : from + 1 - from ≡ 1 = omega arith in
      ap (λ n. take n (drop from w)) e ∙ ap (take 1) (Rattle.std.proofs.lemmas.List.drop_more w from 0 lt)

  pub between_more : (from at : ℕ) → from ≤ at → at < length w → between w from (at + 1) ≡ between w from at ++ get_or w at 0 ∷ []
  between_more from at le lt =
      let l : at - from < length (drop from w) = omega (arith, length-drop from w) in
      let n : at + 1 - from ≡ at - from + 1 = omega arith in
      let same : from + (at - from) ≡ at = omega arith in
      let there : get_or (drop from w) (at - from) 0 ≡ get_or w at 0 = get_or-drop from w (at - from) 0 ∙ ap (λ (m : ℕ). get_or w m 0) same in
      ap (λ (m : ℕ). take m (drop from w)) n ∙ take_more (drop from w) (at - from) 0 l ∙ ap (λ (m : ℕ). take (at - from) (drop from w) ++ m ∷ []) there

  pub number_more : (from at : ℕ) (p q : Part) (k : Frames) → from ≤ at → Reaches w at (state.number p (between w from at)) k → part_there w at p ≡ Some q → Reaches w (at + 1) (state.number q (between w from (at + 1))) k
  number_more from at p q k le h is =
      let here = part_here w at p q is in
      let s = between w from at in
      subst (λ (t : Bytes). Reaches w (at + 1) (state.number q t) k) (sym (between_more from at le here.0))
      (reach_on at (state.number p s) (state.number q (s ++ get_or w at 0 ∷ [])) k k h here.0 (ap (number_part p s k (get_or w at 0)) here.1))

  number_off : (at : ℕ) (p : Part) (s : Bytes) (k : Frames) (t : Bool) → part_there w at p ≡ None → part_ends p ≡ t → at < length w → next at (state.number p s) k (get_or w at 0) ≡ cond t (after (json.Num s) k (class_of (get_or w at 0))) stuck
  number_off at p s k t none e lt =
      ap (number_part p s k (get_or w at 0)) (sym (part_is w at p lt) ∙ none) ∙ ap (λ x. cond x (after (json.Num s) k (class_of (get_or w at 0))) stuck) e

  pub number_ends : (at : ℕ) (p : Part) (s : Bytes) (k : Frames) → part_there w at p ≡ None → part_ends p ≡ true → Reaches w at (state.number p s) k → Ends w at (json.Num s) k
  number_ends at p s k none e h = record {
    state = state.number p s;
    reached = h;
    next = λ lt. number_off at p s k true none e lt;
    last = λ x. ap (λ t. cond t (Some (json.Num s)) None) e;
  }

  pub number_stuck : (at : ℕ) (p : Part) (s : Bytes) (k : Frames) → part_there w at p ≡ None → part_ends p ≡ false → Reaches w at (state.number p s) k → IsStuck w at
  number_stuck at p s k none e h = record {
    state = state.number p s;
    inner = k;
    reached = h;
    next = λ lt. number_off at p s k false none e lt;
    last = λ x. not_ended (state.number p s) k (ap (λ t. cond t (Some (json.Num s)) None) e);
  }

  -- ---- words
  word_step : (at : ℕ) (x : Word) (i : ℕ) (k : Frames) → i < length (word_bytes x) → next at (state.word x i) k (get_or w at 0) ≡ cond (get_or (word_bytes x) i 0 == get_or w at 0) (goes fine (state.word x (i + 1)) k) stuck
  word_step at x i k lt = ap (λ t. cond t (cond (get_or (word_bytes x) i 0 == get_or w at 0) (goes fine (state.word x (i + 1)) k) stuck) (after (word_value x) k (class_of (get_or w at 0)))) (lt-ltb i (length (word_bytes x)) lt)

  pub word_more : (at : ℕ) (x : Word) (i : ℕ) (k : Frames) → i < length (word_bytes x) → byte_there w at ≡ Some (get_or (word_bytes x) i 0) → Reaches w at (state.word x i) k → Reaches w (at + 1) (state.word x (i + 1)) k
  word_more at x i k lt is h =
      let here = byte_here w at (get_or (word_bytes x) i 0) is in
      reach_on at (state.word x i) (state.word x (i + 1)) k k h here.0
      (word_step at x i k lt ∙ ap (λ t. cond t (goes fine (state.word x (i + 1)) k) stuck) (Rattle.std.proofs.lemmas.Bool.eq-eqb (get_or (word_bytes x) i 0) (get_or w at 0) (sym here.1)))

  pub word_stuck : (at : ℕ) (x : Word) (i : ℕ) (k : Frames) → i < length (word_bytes x) → (byte_there w at ≡ Some (get_or (word_bytes x) i 0) → ⊥) → Reaches w at (state.word x i) k → IsStuck w at
  word_stuck at x i k lt n h = record {
    state = state.word x i;
    inner = k;
    reached = h;
    next = λ l. word_step at x i k lt ∙ other l (get_or (word_bytes x) i 0 == get_or w at 0) refl;
    last = λ e. not_ended (state.word x i) k (ap (λ t. cond t None (Some (word_value x))) (lt-ltb i (length (word_bytes x)) lt));
  }
    where
      other : at < length w → (t : Bool) → (get_or (word_bytes x) i 0 == get_or w at 0) ≡ t → cond t (goes fine (state.word x (i + 1)) k) stuck ≡ stuck
      other l true e = absurd (n (byte_is w at l ∙ ap Some (sym (eqb-true (get_or (word_bytes x) i 0) (get_or w at 0) e))))
      other l false e = refl

  pub word_ends : (at : ℕ) (x : Word) (i : ℕ) (k : Frames) → length (word_bytes x) ≤ i → Reaches w at (state.word x i) k → Ends w at (word_value x) k
  word_ends at x i k le h =
      let off = le-ltb i (length (word_bytes x)) le in
      record {
        state = state.word x i;
        reached = h;
        next = λ lt. ap (λ t. cond t (cond (get_or (word_bytes x) i 0 == get_or w at 0) (goes fine (state.word x (i + 1)) k) stuck) (after (word_value x) k (class_of (get_or w at 0)))) off;
        last = λ e. ap (λ t. cond t None (Some (word_value x))) off;
      }

  -- ---- strings
  raw_piece : (s : Bytes) (b : ℕ) → IsRaw b → plain_piece s b ≡ Some (reading Plain (s ++ b ∷ []))
  raw_piece s b is =
      ap (λ t. cond t (Some (finished s)) (cond (b == 92) (Some (reading Backslash s)) (cond (nat_lt b 32) None (Some (reading Plain (s ++ b ∷ [])))))) (neq 34 is.1)
      ∙ ap (λ t. cond t (Some (reading Backslash s)) (cond (nat_lt b 32) None (Some (reading Plain (s ++ b ∷ []))))) (neq 92 is.2)
      ∙ ap (λ t. cond t None (Some (reading Plain (s ++ b ∷ [])))) (le-ltb b 32 is.0)
    where
      neq : (n : ℕ) → (b ≡ n → ⊥) → (b == n) ≡ false
      neq n differ = by (b == n) refl
        where
          by : (t : Bool) → (b == n) ≡ t → (b == n) ≡ false
          by true e = absurd (differ (eqb-true b n e))
          by false e = e

  run_some : (n from : ℕ) (s : Bytes) (r : Role) (k : Frames) → from + n ≤ length w → ArePlain w from (from + n) → Reaches w from (state.text Plain s r) k → Reaches w (from + n) (state.text Plain (s ++ between w from (from + n)) r) k
  run_some zero from s r k le are h =
      let e : from ≡ from + 0 = omega arith in
      let none : from + 0 - from ≡ 0 = omega arith in
      let nil : s ≡ s ++ between w from (from + 0) = sym (ap (λ m. s ++ take m (drop from w)) none ∙ append-nil s) in
      subst (λ (m : ℕ). Reaches w m (state.text Plain (s ++ between w from (from + 0)) r) k) e (subst (λ (t : Bytes). Reaches w from (state.text Plain t r) k) nil h)
  run_some (suc n) from s r k le are h =
      let at = from + n in
      let before = run_some n from s r k (omega arith) (λ i l u. are i l (omega arith)) h in
      let t = s ++ between w from at in
      let b = get_or w at 0 in
      let lt : at < length w = omega arith in
      let on = reach_on at (state.text Plain t r) (state.text Plain (t ++ b ∷ []) r) k k before lt (ap (text_piece r k) (raw_piece t b (are at (omega arith) (omega arith)))) in
      let e : at + 1 ≡ from + suc n = omega arith in
      let same : t ++ b ∷ [] ≡ s ++ between w from (at + 1) = append_assoc s (between w from at) (b ∷ []) ∙ ap (λ y. s ++ y) (sym (between_more from at (omega arith) lt)) in
      subst (λ (m : ℕ). Reaches w m (state.text Plain (s ++ between w from m) r) k) e (subst (λ (y : Bytes). Reaches w (at + 1) (state.text Plain y r) k) same on)

  pub run_on : (from to : ℕ) (s : Bytes) (r : Role) (k : Frames) → from ≤ to → to ≤ length w → ArePlain w from to → Reaches w from (state.text Plain s r) k → Reaches w to (state.text Plain (s ++ between w from to) r) k
  run_on from to s r k le in_it are h =
      let e : from + (to - from) ≡ to = omega arith in
      subst (λ (m : ℕ). Reaches w m (state.text Plain (s ++ between w from m) r) k) e (run_some (to - from) from s r k (omega arith) (subst (ArePlain w from) (sym e) are) h)

  pub escape_on : (at : ℕ) (s : Bytes) (r : Role) (k : Frames) → byte_there w at ≡ Some 92 → Reaches w at (state.text Plain s r) k → Reaches w (at + 1) (state.text Backslash s r) k
  escape_on at s r k is h = let here = byte_here w at 92 is in reach_on at (state.text Plain s r) (state.text Backslash s r) k k h here.0 (ap (text_next Plain s r k) here.1)

  pub piece_on : (at : ℕ) (e i : Escape) (s t : Bytes) (r : Role) (k : Frames) → at < length w → next_piece e s (get_or w at 0) ≡ Some (reading i t) → Reaches w at (state.text e s r) k → Reaches w (at + 1) (state.text i t r) k
  piece_on at e i s t r k lt is h = reach_on at (state.text e s r) (state.text i t r) k k h lt (ap (text_piece r k) is)

  pub piece_stuck : (at : ℕ) (e : Escape) (s : Bytes) (r : Role) (k : Frames) → (at < length w → next_piece e s (get_or w at 0) ≡ None) → Reaches w at (state.text e s r) k → IsStuck w at
  piece_stuck at e s r k is h = record {
    state = state.text e s r;
    inner = k;
    reached = h;
    next = λ lt. ap (text_piece r k) (is lt);
    last = λ x. not_ended (state.text e s r) k refl;
  }

  pub plain_stuck : (at : ℕ) (s : Bytes) (r : Role) (k : Frames) → NoPlain w at → (byte_there w at ≡ Some 34 → ⊥) → (byte_there w at ≡ Some 92 → ⊥) → Reaches w at (state.text Plain s r) k → IsStuck w at
  plain_stuck at s r k n q m h = piece_stuck at Plain s r k (λ lt. none lt (get_or w at 0) refl) h
    where
      low : at < length w → (b : ℕ) → get_or w at 0 ≡ b → (t : Bool) → nat_lt b 32 ≡ t → (b ≡ 34 → ⊥) → (b ≡ 92 → ⊥) → cond t None (Some (reading Plain (s ++ b ∷ []))) ≡ None
      low lt b e true f no_quote no_back = refl
      low lt b e false f no_quote no_back = absurd (n lt (subst IsRaw (sym e) (ltb-false b 32 f, no_quote, no_back)))

      none : at < length w → (b : ℕ) → get_or w at 0 ≡ b → plain_piece s b ≡ None
      none lt b e =
          let no_quote : b ≡ 34 → ⊥ = λ x. q (byte_is w at lt ∙ ap Some (e ∙ x)) in
          let no_back : b ≡ 92 → ⊥ = λ x. m (byte_is w at lt ∙ ap Some (e ∙ x)) in
          ap (λ t. cond t (Some (finished s)) (cond (b == 92) (Some (reading Backslash s)) (cond (nat_lt b 32) None (Some (reading Plain (s ++ b ∷ [])))))) (neq b 34 no_quote)
          ∙ ap (λ t. cond t (Some (reading Backslash s)) (cond (nat_lt b 32) None (Some (reading Plain (s ++ b ∷ []))))) (neq b 92 no_back)
          ∙ low lt b e (nat_lt b 32) refl no_quote no_back
        where
          neq : (b n : ℕ) → (b ≡ n → ⊥) → (b == n) ≡ false
          neq b n differ = by (b == n) refl
            where
              by : (t : Bool) → (b == n) ≡ t → (b == n) ≡ false
              by true e = absurd (differ (eqb-true b n e))
              by false e = e

-- ---- where a text may be cut
module _ (w : Bytes) (at : ℕ) where
  pub after_ascii : IsUtf8 w → at < length w → get_or w at 0 < 128 → IsCharBoundary w (at + 1)
  after_ascii u lt low = IsCharBoundary-after_ascii w at u lt low

  pub after_byte : (b : ℕ) → IsUtf8 w → byte_there w at ≡ Some b → b < 128 → IsCharBoundary w (at + 1)
  after_byte b u is low = let here = byte_here w at b is in let same = here.1 in after_ascii u here.0 (omega arith)

  pub after_class : (c : Class) → IsUtf8 w → class_there w at ≡ Some c → (c ≡ class.Other → ⊥) → IsCharBoundary w (at + 1)
  after_class c u is known = let here = class_here w at c is in after_ascii u here.0 (class_ascii (get_or w at 0) c here.1 (known_class c known))
    where
      known_class : (c : Class) → (c ≡ class.Other → ⊥) → IsKnown c
      known_class class.Other n = n refl
      known_class c n = tt

  pub after_part : (p q : Part) → IsUtf8 w → part_there w at p ≡ Some q → IsCharBoundary w (at + 1)
  after_part p q u is =
      let here = part_here w at p q is in
      after_ascii u here.0 (class_ascii (get_or w at 0) (class_of (get_or w at 0)) refl (part_known p (class_of (get_or w at 0)) q here.1))
