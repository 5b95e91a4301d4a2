-- What is kept of brackets, and the signs that spell them, with one part more or the last one changed.
use Rattle.std.proofs.Common.{◌≡◌, ℕ, Bool, true, false, not, ◌&&◌, List, [], ◌∷◌, ◌++◌, map, Option, Some, None, refl, sym, ap, ◌∙◌, append-nil, true≢false, arith}
use Rattle.std.proofs.lemmas.List.{append_assoc}
use Rattle.ts_query_tree.specs.declared.tree.Written.{Written}
use Rattle.ts_query_tree.specs.declared.tree.Mark.{Mark}
use Rattle.ts_query_tree.specs.declared.tree.Head.{Head}
use Rattle.ts_query_tree.specs.declared.tree.Head.TheVariants.{Any, Text, Node, Group, Choice}
use Rattle.ts_query_tree.specs.declared.tree.Operand.{Operand}
use Rattle.ts_query_tree.specs.declared.tree.Part.{Part as Value}
use Rattle.ts_query_tree.specs.declared.tree.Part.TheVariants as value
use Rattle.ts_query_tree.specs.declared.level.Bracket.{Bracket}
use Rattle.ts_query_tree.specs.declared.level.Bracket.TheVariants.{Top, Opened, Inside}
use Rattle.ts_query_tree.specs.declared.level.Pending.{Pending}
use Rattle.ts_query_tree.specs.declared.level.Pending.TheVariants as pending
use Rattle.ts_query_tree.specs.declared.level.Unit.{Unit}
use Rattle.ts_query_tree.specs.declared.level.Content.{Content}
use Rattle.ts_query_tree.specs.declared.level.Level.{Level}
use Rattle.ts_query_tree.specs.declared.sign.Sign.{Sign}
use Rattle.ts_query_tree.specs.declared.sign.Sign.TheVariants as sign
use Rattle.ts_query_tree.specs.Words.{is_wild}
use Rattle.ts_query_tree.specs.Trees.{Parts, empty, more, Part, item, anchor, without, predicate, spelling, head_spelling, has_item, wild, is_group, is_loose, may_follow, begins_group, values_of}
use Rattle.ts_query_tree.specs.Machine.{frame_of, level, ready, flushed, awaiting, sealed, wild_is_field, with_content, content_with, content_and, last_is, with_capture, fresh, frame_with, level_with, is_due, holds_groups}
use Rattle.ts_query_tree.proofs.Shapes.{Shape, shape, unit_of, before_of, last_of, takes_mark, repeats, content_of, groups_at, asks_at, frame_in, frame_at, level_at, shape_spelling, spelled, bracket_spelling, holds, IsStarted}

-- ---- lists

pub attach : {A : Type 0} (b s f h : List A) → b ++ ((s ++ (f ++ (h ++ []))) ++ []) ≡ (b ++ (s ++ f)) ++ h
attach b s f h =
    ap (λ t. b ++ t) (append-nil (s ++ (f ++ (h ++ [])))) ∙ ap (λ t. b ++ (s ++ (f ++ t))) (append-nil h)
    ∙ ap (λ t. b ++ t) (sym (append_assoc s f h)) ∙ sym (append_assoc b (s ++ f) h)

-- a part behind what was begun
pub attach_part : {A : Type 0} (b s q p ts : List A) → p ≡ q ++ ts → b ++ ((s ++ p) ++ []) ≡ (b ++ (s ++ q)) ++ ts
attach_part b s q p ts e =
    ap (λ t. b ++ t) (append-nil (s ++ p)) ∙ ap (λ t. b ++ (s ++ t)) e
    ∙ ap (λ t. b ++ t) (sym (append_assoc s q ts)) ∙ sym (append_assoc b (s ++ q) ts)

-- what is begun goes on
pub attach_begun : {A : Type 0} (b s q p ts : List A) → p ≡ q ++ ts → b ++ (s ++ p) ≡ (b ++ (s ++ q)) ++ ts
attach_begun b s q p ts e =
    ap (λ t. b ++ (s ++ t)) e ∙ ap (λ t. b ++ t) (sym (append_assoc s q ts)) ∙ sym (append_assoc b (s ++ q) ts)

-- the last part goes on
pub attach_last : {A : Type 0} (b s f h t u ts : List A) → u ≡ t ++ ts →
    b ++ ((s ++ (f ++ (h ++ u))) ++ []) ≡ (b ++ ((s ++ (f ++ (h ++ t))) ++ [])) ++ ts
attach_last b s f h t u ts e =
    ap (λ x. b ++ x) (append-nil (s ++ (f ++ (h ++ u))))
    ∙ ap (λ x. b ++ (s ++ (f ++ (h ++ x)))) e
    ∙ ap (λ x. b ++ (s ++ (f ++ x))) (sym (append_assoc h t ts))
    ∙ ap (λ x. b ++ (s ++ x)) (sym (append_assoc f (h ++ t) ts))
    ∙ ap (λ x. b ++ x) (sym (append_assoc s (f ++ (h ++ t)) ts))
    ∙ sym (append_assoc b (s ++ (f ++ (h ++ t))) ts)
    ∙ ap (λ x. (b ++ x) ++ ts) (sym (append-nil (s ++ (f ++ (h ++ t)))))

pub map_push : {A B : Type 0} (g : A → B) (xs : List A) (x : A) → map g (xs ++ x ∷ []) ≡ map g xs ++ g x ∷ []
map_push g [] x = refl
map_push g (y ∷ xs) x = ap (λ t. g y ∷ t) (map_push g xs x)

-- ---- the name `_`

pub wild_is : (w : Written) → is_wild w.text ≡ true → w ≡ wild w.at
wild_is w e = ap (λ (t : List ℕ). make w.at t) (text_is w.text e)
  where
    make : ℕ → List ℕ → Written
    make at t = record { at = at; text = t }

    text_is : (t : List ℕ) → is_wild t ≡ true → t ≡ 95 ∷ []
    text_is [] e = absurd (true≢false (sym e))
    text_is (c ∷ []) e = let c_is : c ≡ 95 = grind arith in ap (λ (n : ℕ). n ∷ []) c_is
    text_is (c ∷ d ∷ t) e = absurd (true≢false (sym e))

-- ---- what is kept

pub flushed_all : (ps : Parts) → flushed (before_of ps) (last_of ps) ≡ values_of ps
flushed_all empty = refl
flushed_all (more ps (item f h qs m cs)) = refl
flushed_all (more ps anchor) = refl
flushed_all (more ps (without w)) = refl
flushed_all (more ps (predicate w os)) = refl

abbrev make_item : Parts → Head → Option Written → List Value → List Value → Bool → Content
make_item ps h f before xs r = record {
  parts = before;
  last = Some (fresh f h xs);
  tied = false;
  filled = true;
  plain = is_loose ps && not (is_group h);
  repeatable = r;
}

pub content_item : (ps : Parts) (f : Option Written) (h : Head) (qs : Parts) (xs : List Value) (r : Bool) → xs ≡ values_of qs → r ≡ takes_mark h qs →
    content_with (content_of ps) (fresh f h xs) r ≡ content_of (more ps (item f h qs None []))
content_item ps f h qs xs r ex er =
    ap (λ (t : List Value). make_item ps h f t xs r) (flushed_all ps) ∙ ap (λ (t : List Value). make_item ps h f (values_of ps) t r) ex
    ∙ ap (make_item ps h f (values_of ps) (values_of qs)) er

abbrev make_other : Parts → Value → Bool → List Value → Content
make_other ps x ties before = record {
  parts = before ++ x ∷ [];
  last = None;
  tied = ties;
  filled = has_item ps;
  plain = is_loose ps && not ties;
  repeatable = false;
}

pub content_anchor : (ps : Parts) → content_and (content_of ps) value.Anchor true ≡ content_of (more ps anchor)
content_anchor ps = ap (make_other ps value.Anchor true) (flushed_all ps)

pub content_without : (ps : Parts) (w : Written) → content_and (content_of ps) (value.Without w) false ≡ content_of (more ps (without w))
content_without ps w = ap (make_other ps (value.Without w) false) (flushed_all ps)

pub content_predicate : (ps : Parts) (w : Written) (os : List Operand) → content_and (content_of ps) (value.Predicate w os) false ≡ content_of (more ps (predicate w os))
content_predicate ps w os = ap (make_other ps (value.Predicate w os) false) (flushed_all ps)

no_repeat : (ps : Parts) (f : Option Written) (h : Head) (qs : Parts) (m : Option Mark) (cs : List Written) (c : Written) → false ≡ repeats (more ps (item f h qs m (cs ++ c ∷ [])))
no_repeat ps f h qs None [] c = refl
no_repeat ps f h qs None (d ∷ cs) c = refl
no_repeat ps f h qs (Some m) cs c = refl

abbrev make_last : Parts → Unit → Head → Bool → Content
make_last ps u h r = record {
  parts = values_of ps;
  last = Some u;
  tied = false;
  filled = true;
  plain = is_loose ps && not (is_group h);
  repeatable = r;
}

pub content_captured : (ps : Parts) (f : Option Written) (h : Head) (qs : Parts) (m : Option Mark) (cs : List Written) (c : Written) →
    last_is (content_of (more ps (item f h qs m cs))) (with_capture (unit_of f h qs m cs) c) ≡ content_of (more ps (item f h qs m (cs ++ c ∷ [])))
content_captured ps f h qs m cs c = ap (make_last ps (unit_of f h qs m (cs ++ c ∷ [])) h) (no_repeat ps f h qs m cs c)

-- ---- items

abbrev pub field_in : Pending → Option Written
field_in pending.Nothing = None
field_in (pending.Name w) = None
field_in (pending.Field w) = Some w
field_in (pending.Predicate w os) = None

abbrev pub with_unit : Bracket → Parts → Pending → Head → Parts → Shape
with_unit b ps p h qs = shape b (more ps (item (field_in p) h qs None [])) pending.Nothing

pub unit_is : (b : Bracket) (ps : Parts) (os : List Shape) (f : Option Written) (h : Head) (qs : Parts) (xs : List Value) (r : Bool) → xs ≡ values_of qs → r ≡ takes_mark h qs →
    ready (frame_with (frame_at b ps os) f h xs r) ≡ level_at (shape b (more ps (item f h qs None [])) pending.Nothing) os
unit_is b ps os f h qs xs r ex er = ap (λ (c : Content). ready (frame_of b (groups_at os) (asks_at os) c)) (content_item ps f h qs xs r ex er)

-- the same behind a field
pub unit_in_field : (b : Bracket) (ps : Parts) (os : List Shape) (v : Written) (h : Head) (qs : Parts) (xs : List Value) (r : Bool) → xs ≡ values_of qs → r ≡ takes_mark h qs →
    ready (frame_with (frame_in b ps (pending.Field v) os) (Some v) h xs r) ≡ level_at (shape b (more ps (item (Some v) h qs None [])) pending.Nothing) os
unit_in_field b ps os v h qs xs r ex er =
    ap (λ (c : Content). ready (frame_of b (groups_at os) (asks_at os) c))
    (ap (λ (t : List Value). make_item ps h (Some v) (values_of ps) t r) ex ∙ ap (make_item ps h (Some v) (values_of ps) (values_of qs)) er)

pub unit_added : (b : Bracket) (ps : Parts) (p : Pending) (os : List Shape) (h : Head) (qs : Parts) (xs : List Value) (r : Bool) → holds b ≡ true → is_due p ≡ true →
    xs ≡ values_of qs → r ≡ takes_mark h qs → level_with (level_at (shape b ps p) os) h xs r ≡ Some (level_at (with_unit b ps p h qs) os)
unit_added Top ps pending.Nothing os h qs xs r g d ex er = ap (λ (l : Level). Some l) (unit_is Top ps os None h qs xs r ex er)
unit_added Top ps (pending.Name w) os h qs xs r g d ex er = absurd (true≢false (sym d))
unit_added Top ps (pending.Field w) os h qs xs r g d ex er = ap (λ (l : Level). Some l) (unit_in_field Top ps os w h qs xs r ex er)
unit_added Top ps (pending.Predicate w o) os h qs xs r g d ex er = absurd (true≢false (sym d))
unit_added Opened ps p os h qs xs r g d ex er = absurd (true≢false (sym g))
unit_added (Inside k) ps pending.Nothing os h qs xs r g d ex er = ap (λ (l : Level). Some l) (unit_is (Inside k) ps os None h qs xs r ex er)
unit_added (Inside k) ps (pending.Name w) os h qs xs r g d ex er = absurd (true≢false (sym d))
unit_added (Inside k) ps (pending.Field w) os h qs xs r g d ex er = ap (λ (l : Level). Some l) (unit_in_field (Inside k) ps os w h qs xs r ex er)
unit_added (Inside k) ps (pending.Predicate w o) os h qs xs r g d ex er = absurd (true≢false (sym d))

-- a field is begun behind a name
pub field_is : (b : Bracket) (ps : Parts) (w : Written) (os : List Shape) →
    level (with_content (frame_at b ps os) (sealed (content_of ps))) (pending.Field w) ≡ level_at (shape b ps (pending.Field w)) os
field_is b ps w os =
    ap (λ (xs : List Value). level (frame_of b (groups_at os) (asks_at os) (awaiting xs (is_loose ps))) (pending.Field w)) (flushed_all ps)

loose_more : (k : Bool) → (k && true) ≡ k
loose_more true = refl
loose_more false = refl

-- a field is begun with the last `_`
pub wild_field_is : (b : Bracket) (ps : Parts) (at : ℕ) (os : List Shape) →
    wild_is_field (frame_at b (more ps (item None (Any at) empty None [])) os) (Some at) ≡ Some (level_at (shape b ps (pending.Field (wild at))) os)
wild_field_is b ps at os =
    ap (λ (k : Bool). Some (level (frame_of b (groups_at os) (asks_at os) (awaiting (values_of ps) k)) (pending.Field (wild at)))) (loose_more (is_loose ps))

-- ---- the signs

pub spelled_more : (x y : Shape) (os : List Shape) (ts : List Sign) → shape_spelling y ≡ shape_spelling x ++ ts → spelled y os ≡ spelled x os ++ ts
spelled_more x y [] ts e = e
spelled_more x y (r ∷ os) ts e = ap (λ (t : List Sign). spelled r os ++ t) e ∙ sym (append_assoc (spelled r os) (shape_spelling x) ts)

pub unit_spells : (b : Bracket) (ps : Parts) (p : Pending) (h : Head) (qs : Parts) → is_due p ≡ true →
    shape_spelling (with_unit b ps p h qs) ≡ shape_spelling (shape b ps p) ++ head_spelling h (spelling qs)
unit_spells b ps pending.Nothing h qs d = attach (bracket_spelling b) (spelling ps) [] (head_spelling h (spelling qs))
unit_spells b ps (pending.Name w) h qs d = absurd (true≢false (sym d))
unit_spells b ps (pending.Field w) h qs d = attach (bracket_spelling b) (spelling ps) (sign.Name w ∷ sign.Colon ∷ []) (head_spelling h (spelling qs))
unit_spells b ps (pending.Predicate w o) h qs d = absurd (true≢false (sym d))

-- ---- what may follow

pub started_more : (b : Bracket) (ps : Parts) (q : Part) (p : Pending) → IsStarted (shape b (more ps q) p)
started_more Top ps q p = tt
started_more Opened ps q p = tt
started_more (Inside (Any at)) ps q p = tt
started_more (Inside (Text text)) ps q p = tt
started_more (Inside (Node kind)) ps q p = tt
started_more (Inside Group) ps q p = tt
started_more (Inside Choice) ps q p = tt

pub unit_follows : (b : Bracket) (ps : Parts) (f : Option Written) (h : Head) (qs : Parts) → holds b ≡ true → is_group h ≡ false →
    begins_group (item f h qs None []) ≡ true → may_follow b ps (item f h qs None []) ≡ true
unit_follows Top ps f h qs g n e = refl
unit_follows Opened ps f h qs g n e = absurd (true≢false (sym g))
unit_follows (Inside (Any at)) ps f h qs g n e = absurd (true≢false (sym g))
unit_follows (Inside (Text text)) ps f h qs g n e = absurd (true≢false (sym g))
unit_follows (Inside (Node kind)) ps f h qs g n e = refl
unit_follows (Inside Group) empty f h qs g n e = e
unit_follows (Inside Group) (more ps q) f h qs g n e = refl
unit_follows (Inside Choice) ps f h qs g n e = ap not n

pub wild_follows : (b : Bracket) (ps : Parts) (at : ℕ) → holds b ≡ true → IsStarted (shape b ps pending.Nothing) → may_follow b ps (item None (Any at) empty None []) ≡ true
wild_follows Top ps at g s = refl
wild_follows Opened ps at g s = absurd (true≢false (sym g))
wild_follows (Inside (Any a)) ps at g s = absurd (true≢false (sym g))
wild_follows (Inside (Text text)) ps at g s = absurd (true≢false (sym g))
wild_follows (Inside (Node kind)) ps at g s = refl
wild_follows (Inside Group) empty at g s = absurd s
wild_follows (Inside Group) (more ps q) at g s = refl
wild_follows (Inside Choice) ps at g s = refl

pub group_follows : (b : Bracket) (ps qs : Parts) → holds b ≡ true → holds_groups b ≡ true → may_follow b ps (item None Group qs None []) ≡ true
group_follows Top ps qs g k = refl
group_follows Opened ps qs g k = absurd (true≢false (sym g))
group_follows (Inside (Any at)) ps qs g k = absurd (true≢false (sym g))
group_follows (Inside (Text text)) ps qs g k = absurd (true≢false (sym g))
group_follows (Inside (Node kind)) ps qs g k = refl
group_follows (Inside Group) empty qs g k = refl
group_follows (Inside Group) (more ps q) qs g k = refl
group_follows (Inside Choice) ps qs g k = absurd (true≢false (sym k))

pub begins_unit : (f : Option Written) (w : Written) → begins_group (item f (Text w) empty None []) ≡ true
begins_unit None w = refl
begins_unit (Some f) w = refl
