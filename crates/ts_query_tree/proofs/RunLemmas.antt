-- The signs of a part lead the reader from what is open before it to what is open behind it.
use Rattle.std.proofs.Common.{◌≡◌, ℕ, Bool, true, false, not, ◌&&◌, ◌||◌, List, [], ◌∷◌, ◌++◌, map, Option, Some, None, refl, sym, ap, ◌∙◌, append-nil, true≢false, if◌then◌else◌}
use Rattle.std.proofs.lemmas.List.{append_assoc}
use Rattle.ts_query_tree.specs.declared.tree.Written.{Written}
use Rattle.ts_query_tree.specs.declared.tree.Mark.{Mark}
use Rattle.ts_query_tree.specs.declared.tree.Head.{Head}
use Rattle.ts_query_tree.specs.declared.tree.Head.TheVariants.{Any, Text, Node, Group, Choice}
use Rattle.ts_query_tree.specs.declared.tree.Operand.{Operand}
use Rattle.ts_query_tree.specs.declared.tree.Operand.TheVariants as operand
use Rattle.ts_query_tree.specs.declared.tree.Part.{Part as Value}
use Rattle.ts_query_tree.specs.declared.tree.Part.TheVariants as value
use Rattle.ts_query_tree.specs.declared.level.Bracket.{Bracket}
use Rattle.ts_query_tree.specs.declared.level.Bracket.TheVariants.{Top, Opened, Inside}
use Rattle.ts_query_tree.specs.declared.level.Pending.{Pending}
use Rattle.ts_query_tree.specs.declared.level.Pending.TheVariants as pending
use Rattle.ts_query_tree.specs.declared.level.Content.{Content}
use Rattle.ts_query_tree.specs.declared.level.Frame.{Frame}
use Rattle.ts_query_tree.specs.declared.level.Level.{Level}
use Rattle.ts_query_tree.specs.declared.sign.Sign.{Sign}
use Rattle.ts_query_tree.specs.declared.sign.Sign.TheVariants as sign
use Rattle.ts_query_tree.specs.Words.{is_wild}
use Rattle.ts_query_tree.specs.Trees.{Parts, empty, more, Part, item, anchor, without, predicate, wild, spelling, part_spelling, head_spelling, field_spelling, mark_spelling, operand_sign, is_nil, has_item, is_group, is_loose, may_follow, begins_group, is_fitting, AreFormed, IsFormed, values_of}
use Rattle.ts_query_tree.specs.Machine.{Open, frame_of, as_group, level, ready, flushed, is_begun, content_in, frame_and, marked, last_is, with_mark, with_capture, frame_with, entered, kind_of, lone_kind, lone_wild, wild_place, colon_behind, regrouped, regrouped_at, is_choice, frame_marked, frame_captured, frame_ready, holds_groups, predicates_in, anchors_in, holds_anchors, is_due, level_with, within, asking_in, opened_in, opened, put, next}
use Rattle.ts_query_tree.proofs.Shapes.{Shape, shape, unit_of, before_of, last_of, takes_mark, content_of, groups_at, asks_at, frame_in, frame_at, level_at, levels, open_at, holds}
use Rattle.ts_query_tree.specs.Machine.{run_from, start}
use Rattle.ts_query_tree.proofs.ShapeLemmas.{flushed_all, content_anchor, content_without, content_predicate, content_captured, wild_is, field_in, unit_is, unit_in_field, field_is, wild_field_is, unit_added}

abbrev pub go : Shape → List Shape → List Sign → Option Open
go x os ss = run_from (Some (open_at x os)) ss

-- one sign
pub stepped : (x y : Shape) (os rs : List Shape) (s : Sign) (rest : List Sign) → next (level_at x os) (levels os) s ≡ Some (open_at y rs) → go x os (s ∷ rest) ≡ go y rs rest
stepped x y os rs s rest e = ap (λ (o : Option Open). run_from o rest) e

-- ---- what was begun is no lone `_`

begun_more : (ps : Parts) (q : Part) → is_begun (content_of (more ps q)) ≡ true
begun_more ps (item f h qs m cs) = by (is_nil (values_of ps))
  where
    by : (k : Bool) → (not k || true) ≡ true
    by true = refl
    by false = refl
begun_more ps anchor = by (values_of ps)
  where
    by : (xs : List Value) → (not (is_nil (xs ++ value.Anchor ∷ [])) || false) ≡ true
    by [] = refl
    by (x ∷ xs) = refl
begun_more ps (without w) = by (values_of ps)
  where
    by : (xs : List Value) → (not (is_nil (xs ++ value.Without w ∷ [])) || false) ≡ true
    by [] = refl
    by (x ∷ xs) = refl
begun_more ps (predicate w os) = by (values_of ps)
  where
    by : (xs : List Value) → (not (is_nil (xs ++ value.Predicate w os ∷ [])) || false) ≡ true
    by [] = refl
    by (x ∷ xs) = refl

kind_none : (b : Bracket) (ps : Parts) (q : Part) (os : List Shape) → lone_kind (frame_at b (more ps q) os) ≡ None
kind_none b ps q os =
    ap (λ (k : Bool). if not (groups_at os) || k then None else kind_of b) (begun_more ps q) ∙ by (groups_at os)
  where
    by : (g : Bool) → (if not g || true then None else kind_of b) ≡ None
    by true = refl
    by false = refl

lone_none : (b : Bracket) (ps : Parts) (q : Part) (os : List Shape) → lone_wild (frame_at b (more ps q) os) ≡ None
lone_none b ps q os = ap wild_place (kind_none b ps q os)

regrouped_same : (b : Bracket) (ps : Parts) (q : Part) (os : List Shape) → regrouped (frame_at b (more ps q) os) ≡ frame_at b (more ps q) os
regrouped_same b ps q os = ap (regrouped_at (frame_at b (more ps q) os)) (lone_none b ps q os)

-- ---- quantifiers and captures

mark_goes : (b : Bracket) (ps : Parts) (f : Option Written) (h : Head) (qs : Parts) (m : Mark) (os : List Shape) → is_choice b ≡ false → takes_mark h qs ≡ true →
    next (level_at (shape b (more ps (item f h qs None [])) pending.Nothing) os) (levels os) (sign.Mark m) ≡ Some (open_at (shape b (more ps (item f h qs (Some m) [])) pending.Nothing) os)
mark_goes b ps f h qs m os n t =
    ap (λ (x : Frame). within (levels os) (frame_ready (frame_marked x m))) (regrouped_same b ps (item f h qs None []) os)
    ∙ ap (λ (k : Bool). within (levels os) (frame_ready (if k then None else content_in (frame_at b (more ps (item f h qs None [])) os) (marked (content_of (more ps (item f h qs None []))) m)))) n
    ∙ ap (λ (k : Bool). within (levels os) (frame_ready (content_in (frame_at b (more ps (item f h qs None [])) os)
    (if k then Some (last_is (content_of (more ps (item f h qs None []))) (with_mark (unit_of f h qs None []) m)) else None)))) t

capture_goes : (b : Bracket) (ps : Parts) (f : Option Written) (h : Head) (qs : Parts) (m : Option Mark) (cs : List Written) (c : Written) (os : List Shape) → is_group h ≡ false →
    next (level_at (shape b (more ps (item f h qs m cs)) pending.Nothing) os) (levels os) (sign.Capture c) ≡ Some (open_at (shape b (more ps (item f h qs m (cs ++ c ∷ []))) pending.Nothing) os)
capture_goes b ps f h qs m cs c os n =
    ap (λ (x : Frame). within (levels os) (frame_ready (frame_captured x c))) (regrouped_same b ps (item f h qs m cs) os)
    ∙ ap (λ (k : Bool). within (levels os) (frame_ready (content_in (frame_at b (more ps (item f h qs m cs)) os)
    (if k then None else Some (last_is (content_of (more ps (item f h qs m cs))) (with_capture (unit_of f h qs m cs) c)))))) n
    ∙ ap (λ (x : Content). Some (ready (frame_of b (groups_at os) (asks_at os) x), levels os)) (content_captured ps f h qs m cs c)

captures_go : (ds : List Written) (b : Bracket) (ps : Parts) (f : Option Written) (h : Head) (qs : Parts) (m : Option Mark) (cs : List Written) (os : List Shape) (rest : List Sign) → is_group h ≡ false →
    go (shape b (more ps (item f h qs m cs)) pending.Nothing) os (map sign.Capture ds ++ rest) ≡ go (shape b (more ps (item f h qs m (cs ++ ds))) pending.Nothing) os rest
captures_go [] b ps f h qs m cs os rest n = ap (λ (t : List Written). go (shape b (more ps (item f h qs m t)) pending.Nothing) os rest) (sym (append-nil cs))
captures_go (d ∷ ds) b ps f h qs m cs os rest n =
    stepped (shape b (more ps (item f h qs m cs)) pending.Nothing) (shape b (more ps (item f h qs m (cs ++ d ∷ []))) pending.Nothing) os os (sign.Capture d) (map sign.Capture ds ++ rest) (capture_goes b ps f h qs m cs d os n)
    ∙ captures_go ds b ps f h qs m (cs ++ d ∷ []) os rest n
    ∙ ap (λ (t : List Written). go (shape b (more ps (item f h qs m t)) pending.Nothing) os rest) (append_assoc cs (d ∷ []) ds)

-- what is needed of an item for its quantifier and its captures
no_captures : (f : Option Written) (h : Head) (qs : Parts) (m : Option Mark) (c : Written) (cs : List Written) → is_fitting f h qs m (c ∷ cs) ≡ true → is_group h ≡ false
no_captures None (Any at) qs m c cs e = refl
no_captures None (Text text) qs m c cs e = refl
no_captures None (Node kind) qs m c cs e = refl
no_captures None Group qs m c cs e = absurd (true≢false (sym e))
no_captures None Choice qs m c cs e = refl
no_captures (Some v) (Any at) qs m c cs e = refl
no_captures (Some v) (Text text) qs m c cs e = refl
no_captures (Some v) (Node kind) qs m c cs e = refl
no_captures (Some v) Group qs m c cs e = absurd (true≢false (sym e))
no_captures (Some v) Choice qs m c cs e = refl

mark_fits : (f : Option Written) (h : Head) (qs : Parts) (m : Mark) (cs : List Written) → is_fitting f h qs (Some m) cs ≡ true → takes_mark h qs ≡ true
mark_fits None (Any at) qs m cs e = refl
mark_fits None (Text text) qs m cs e = refl
mark_fits None (Node kind) qs m cs e = refl
mark_fits None Group qs m [] e = e
mark_fits None Group qs m (c ∷ cs) e = absurd (true≢false (sym e))
mark_fits None Choice qs m cs e = refl
mark_fits (Some v) (Any at) qs m cs e = refl
mark_fits (Some v) (Text text) qs m cs e = refl
mark_fits (Some v) (Node kind) qs m cs e = refl
mark_fits (Some v) Group qs m cs e = absurd (true≢false (sym e))
mark_fits (Some v) Choice qs m cs e = refl

no_choice : (b : Bracket) (ps : Parts) (f : Option Written) (h : Head) (qs : Parts) (m : Mark) (cs : List Written) → may_follow b ps (item f h qs (Some m) cs) ≡ true → is_choice b ≡ false
no_choice Top ps f h qs m cs e = refl
no_choice Opened ps f h qs m cs e = refl
no_choice (Inside (Any at)) ps f h qs m cs e = refl
no_choice (Inside (Text text)) ps f h qs m cs e = refl
no_choice (Inside (Node kind)) ps f h qs m cs e = refl
no_choice (Inside Group) ps f h qs m cs e = refl
no_choice (Inside Choice) ps f h qs m cs e = absurd (true≢false (sym e))

captures_end : (cs : List Written) (b : Bracket) (ps : Parts) (f : Option Written) (h : Head) (qs : Parts) (m : Option Mark) (os : List Shape) (rest : List Sign) → is_fitting f h qs m cs ≡ true →
    go (shape b (more ps (item f h qs m [])) pending.Nothing) os (map sign.Capture cs ++ rest) ≡ go (shape b (more ps (item f h qs m cs)) pending.Nothing) os rest
captures_end [] b ps f h qs m os rest e = refl
captures_end (c ∷ cs) b ps f h qs m os rest e = captures_go (c ∷ cs) b ps f h qs m [] os rest (no_captures f h qs m c cs e)

-- behind its head an item takes its quantifier and its captures
tail_goes : (b : Bracket) (ps : Parts) (f : Option Written) (h : Head) (qs : Parts) (m : Option Mark) (cs : List Written) (os : List Shape) (rest : List Sign) →
    may_follow b ps (item f h qs m cs) ≡ true → is_fitting f h qs m cs ≡ true →
    go (shape b (more ps (item f h qs None [])) pending.Nothing) os (mark_spelling m ++ (map sign.Capture cs ++ rest)) ≡ go (shape b (more ps (item f h qs m cs)) pending.Nothing) os rest
tail_goes b ps f h qs None cs os rest follows e = captures_end cs b ps f h qs None os rest e
tail_goes b ps f h qs (Some m) cs os rest follows e =
    stepped (shape b (more ps (item f h qs None [])) pending.Nothing) (shape b (more ps (item f h qs (Some m) [])) pending.Nothing) os os (sign.Mark m) (map sign.Capture cs ++ rest)
    (mark_goes b ps f h qs m os (no_choice b ps f h qs m cs follows) (mark_fits f h qs m cs e))
    ∙ captures_end cs b ps f h qs (Some m) os rest e

-- ---- heads

abbrev pub begun_field : Option Written → Pending
begun_field None = pending.Nothing
begun_field (Some v) = pending.Field v

due_field_is : (f : Option Written) → is_due (begun_field f) ≡ true
due_field_is None = refl
due_field_is (Some v) = refl

field_back : (f : Option Written) → field_in (begun_field f) ≡ f
field_back None = refl
field_back (Some v) = refl

-- one more item
unit_goes : (b : Bracket) (ps : Parts) (f : Option Written) (os : List Shape) (h : Head) (qs : Parts) (xs : List Value) (r : Bool) → holds b ≡ true → xs ≡ values_of qs → r ≡ takes_mark h qs →
    within (levels os) (level_with (level_at (shape b ps (begun_field f)) os) h xs r) ≡ Some (open_at (shape b (more ps (item f h qs None [])) pending.Nothing) os)
unit_goes b ps f os h qs xs r g ex er =
    ap (within (levels os)) (unit_added b ps (begun_field f) os h qs xs r g (due_field_is f) ex er)
    ∙ ap (λ (v : Option Written). Some (open_at (shape b (more ps (item v h qs None [])) pending.Nothing) os)) (field_back f)

entered_same : (b : Bracket) (ps : Parts) (p : Pending) (os : List Shape) → holds b ≡ true → entered (frame_in b ps p os) ≡ frame_in b ps p os
entered_same Top ps p os g = refl
entered_same Opened ps p os g = absurd (true≢false (sym g))
entered_same (Inside h) ps p os g = refl

pub any_goes : (b : Bracket) (ps : Parts) (f : Option Written) (at : ℕ) (os : List Shape) → holds b ≡ true →
    next (level_at (shape b ps (begun_field f)) os) (levels os) (sign.Name (wild at)) ≡ Some (open_at (shape b (more ps (item f (Any at) empty None [])) pending.Nothing) os)
any_goes Top ps None at os g = ap (λ (l : Level). Some (l, levels os)) (unit_is Top ps os None (Any at) empty [] true refl refl)
any_goes Opened ps None at os g = absurd (true≢false (sym g))
any_goes (Inside h) ps None at os g = ap (λ (l : Level). Some (l, levels os)) (unit_is (Inside h) ps os None (Any at) empty [] true refl refl)
any_goes b ps (Some v) at os g = ap (λ (l : Level). Some (l, levels os)) (unit_in_field b ps os v (Any at) empty [] true refl refl)

-- a name that is no `_` needs its colon
name_goes : (b : Bracket) (ps : Parts) (v : Written) (os : List Shape) → holds b ≡ true → is_wild v.text ≡ false →
    next (level_at (shape b ps pending.Nothing) os) (levels os) (sign.Name v) ≡ Some (open_at (shape b ps (pending.Name v)) os)
name_goes Top ps v os g n =
    ap (λ (t : Bool). Some (if t then ready (frame_with (frame_at Top ps os) None (Any v.at) [] true) else level (frame_at Top ps os) (pending.Name v), levels os)) n
name_goes Opened ps v os g n = absurd (true≢false (sym g))
name_goes (Inside h) ps v os g n =
    ap (λ (t : Bool). Some (if t then ready (frame_with (frame_at (Inside h) ps os) None (Any v.at) [] true) else level (frame_at (Inside h) ps os) (pending.Name v), levels os)) n

-- the last `_` is a field's name before a colon
wild_colon_goes : (b : Bracket) (ps : Parts) (at : ℕ) (os : List Shape) →
    next (level_at (shape b (more ps (item None (Any at) empty None [])) pending.Nothing) os) (levels os) sign.Colon ≡ Some (open_at (shape b ps (pending.Field (wild at))) os)
wild_colon_goes b ps at os =
    ap (λ (o : Option Written). within (levels os) (colon_behind (frame_at b (more ps (item None (Any at) empty None [])) os) o)) (kind_none b ps (item None (Any at) empty None []) os)
    ∙ ap (within (levels os)) (wild_field_is b ps at os)

field_goes : (b : Bracket) (ps : Parts) (f : Option Written) (os : List Shape) (rest : List Sign) → holds b ≡ true →
    go (shape b ps pending.Nothing) os (field_spelling f ++ rest) ≡ go (shape b ps (begun_field f)) os rest
field_goes b ps None os rest g = refl
field_goes b ps (Some v) os rest g = by (is_wild v.text) refl
  where
    by : (k : Bool) → is_wild v.text ≡ k → go (shape b ps pending.Nothing) os (sign.Name v ∷ sign.Colon ∷ rest) ≡ go (shape b ps (pending.Field v)) os rest
    by true t =
        ap (λ (u : Written). go (shape b ps pending.Nothing) os (sign.Name u ∷ sign.Colon ∷ rest)) (wild_is v t)
        ∙ stepped (shape b ps pending.Nothing) (shape b (more ps (item None (Any v.at) empty None [])) pending.Nothing) os os (sign.Name (wild v.at)) (sign.Colon ∷ rest) (any_goes b ps None v.at os g)
        ∙ stepped (shape b (more ps (item None (Any v.at) empty None [])) pending.Nothing) (shape b ps (pending.Field (wild v.at))) os os sign.Colon rest (wild_colon_goes b ps v.at os)
        ∙ ap (λ (u : Written). go (shape b ps (pending.Field u)) os rest) (sym (wild_is v t))
    by false t =
        stepped (shape b ps pending.Nothing) (shape b ps (pending.Name v)) os os (sign.Name v) (sign.Colon ∷ rest) (name_goes b ps v os g t)
        ∙ stepped (shape b ps (pending.Name v)) (shape b ps (pending.Field v)) os os sign.Colon rest (ap (λ (l : Level). Some (l, levels os)) (field_is b ps v os))

text_goes : (b : Bracket) (ps : Parts) (f : Option Written) (w : Written) (os : List Shape) → holds b ≡ true →
    next (level_at (shape b ps (begun_field f)) os) (levels os) (sign.Text w) ≡ Some (open_at (shape b (more ps (item f (Text w) empty None [])) pending.Nothing) os)
text_goes b ps None w os g =
    ap (λ (x : Frame). within (levels os) (level_with (level x pending.Nothing) (Text w) [] true)) (entered_same b ps pending.Nothing os g) ∙ unit_goes b ps None os (Text w) empty [] true g refl refl
text_goes b ps (Some v) w os g =
    ap (λ (x : Frame). within (levels os) (level_with (level x (pending.Field v)) (Text w) [] true)) (entered_same b ps (pending.Field v) os g) ∙ unit_goes b ps (Some v) os (Text w) empty [] true g refl refl

open_goes : (c b : Bracket) (ps : Parts) (f : Option Written) (os : List Shape) → holds b ≡ true →
    opened (level_at (shape b ps (begun_field f)) os) c (levels os) ≡ Some (open_at (shape c empty pending.Nothing) (shape b ps (begun_field f) ∷ os))
open_goes c Top ps None os g = refl
open_goes c Top ps (Some v) os g = refl
open_goes c Opened ps f os g = absurd (true≢false (sym g))
open_goes c (Inside h) ps None os g = refl
open_goes c (Inside h) ps (Some v) os g = refl

-- ---- parts other than items

anchor_goes : (b : Bracket) (ps : Parts) (os : List Shape) → holds b ≡ true → may_follow b ps anchor ≡ true →
    next (level_at (shape b ps pending.Nothing) os) (levels os) sign.Anchor ≡ Some (open_at (shape b (more ps anchor) pending.Nothing) os)
anchor_goes b ps os g e =
    ap (λ (x : Frame). within (levels os) (if holds_anchors x then Some (ready (frame_and x value.Anchor true)) else None)) (entered_same b ps pending.Nothing os g)
    ∙ ap (λ (k : Bool). within (levels os) (if k then Some (ready (frame_and (frame_at b ps os) value.Anchor true)) else None)) (by b ps e)
    ∙ ap (λ (c : Content). Some (ready (frame_of b (groups_at os) (asks_at os) c), levels os)) (content_anchor ps)
  where
    by : (c : Bracket) (qs : Parts) → may_follow c qs anchor ≡ true → anchors_in (content_of qs) c ≡ true
    by Top qs k = k
    by Opened qs k = k
    by (Inside (Any at)) qs k = k
    by (Inside (Text text)) qs k = k
    by (Inside (Node kind)) qs k = k
    by (Inside Group) empty k = refl
    by (Inside Group) (more qs q) k = k
    by (Inside Choice) qs k = k

without_goes : (b : Bracket) (ps : Parts) (w : Written) (os : List Shape) → may_follow b ps (without w) ≡ true →
    next (level_at (shape b ps pending.Nothing) os) (levels os) (sign.Without w) ≡ Some (open_at (shape b (more ps (without w)) pending.Nothing) os)
without_goes Top ps w os e = absurd (true≢false (sym e))
without_goes Opened ps w os e = absurd (true≢false (sym e))
without_goes (Inside (Any at)) ps w os e = absurd (true≢false (sym e))
without_goes (Inside (Text text)) ps w os e = absurd (true≢false (sym e))
without_goes (Inside (Node kind)) ps w os e = ap (λ (c : Content). Some (ready (frame_of (Inside (Node kind)) (groups_at os) (asks_at os) c), levels os)) (content_without ps w)
without_goes (Inside Group) empty w os e = absurd (true≢false (sym e))
without_goes (Inside Group) (more ps q) w os e = absurd (true≢false (sym e))
without_goes (Inside Choice) ps w os e = absurd (true≢false (sym e))

operands_go : (ys xs : List Operand) (b : Bracket) (ps : Parts) (w : Written) (os : List Shape) (rest : List Sign) →
    go (shape b ps (pending.Predicate w xs)) os (map operand_sign ys ++ rest) ≡ go (shape b ps (pending.Predicate w (xs ++ ys))) os rest
operands_go [] xs b ps w os rest = ap (λ (t : List Operand). go (shape b ps (pending.Predicate w t)) os rest) (sym (append-nil xs))
operands_go (operand.Capture v ∷ ys) xs b ps w os rest =
    operands_go ys (xs ++ operand.Capture v ∷ []) b ps w os rest ∙ ap (λ (t : List Operand). go (shape b ps (pending.Predicate w t)) os rest) (append_assoc xs (operand.Capture v ∷ []) ys)
operands_go (operand.Text v ∷ ys) xs b ps w os rest =
    operands_go ys (xs ++ operand.Text v ∷ []) b ps w os rest ∙ ap (λ (t : List Operand). go (shape b ps (pending.Predicate w t)) os rest) (append_assoc xs (operand.Text v ∷ []) ys)
operands_go (operand.Name v ∷ ys) xs b ps w os rest =
    operands_go ys (xs ++ operand.Name v ∷ []) b ps w os rest ∙ ap (λ (t : List Operand). go (shape b ps (pending.Predicate w t)) os rest) (append_assoc xs (operand.Name v ∷ []) ys)

asks_there : (b : Bracket) (ps : Parts) (w : Written) (xs : List Operand) → may_follow b ps (predicate w xs) ≡ true → predicates_in (content_of ps) b ≡ true
asks_there Top ps w xs e = e
asks_there Opened ps w xs e = e
asks_there (Inside (Any at)) ps w xs e = e
asks_there (Inside (Text text)) ps w xs e = e
asks_there (Inside (Node kind)) ps w xs e = refl
asks_there (Inside Group) empty w xs e = absurd (true≢false (sym e))
asks_there (Inside Group) (more ps q) w xs e = begun_more ps q
asks_there (Inside Choice) ps w xs e = e

predicate_goes : (b : Bracket) (ps : Parts) (w : Written) (xs : List Operand) (os : List Shape) (rest : List Sign) → holds b ≡ true → may_follow b ps (predicate w xs) ≡ true →
    go (shape b ps pending.Nothing) os (part_spelling (predicate w xs) ++ rest) ≡ go (shape b (more ps (predicate w xs)) pending.Nothing) os rest
predicate_goes b ps w xs os rest g e =
    stepped (shape b ps pending.Nothing) (shape Opened empty pending.Nothing) os (shape b ps pending.Nothing ∷ os) sign.Open (sign.Predicate w ∷ ((map operand_sign xs ++ sign.Close ∷ []) ++ rest)) (open_goes Opened b ps None os g)
    ∙ ap (λ (k : Bool). run_from (if k && true then asking_in w (levels (shape b ps pending.Nothing ∷ os)) else None) ((map operand_sign xs ++ sign.Close ∷ []) ++ rest)) (asks_there b ps w xs e)
    ∙ ap (go (shape b ps (pending.Predicate w [])) os) (append_assoc (map operand_sign xs) (sign.Close ∷ []) rest)
    ∙ operands_go xs [] b ps w os (sign.Close ∷ rest)
    ∙ ap (λ (c : Content). run_from (Some (ready (frame_of b (groups_at os) (asks_at os) c), levels os)) rest) (content_predicate ps w xs)

-- ---- brackets

-- the bracket of a head, with nothing in it
abbrev pub opens_as : Head → Shape
opens_as (Any at) = shape Opened empty pending.Nothing
opens_as (Text text) = shape Opened empty pending.Nothing
opens_as (Node kind) = shape (Inside (Node kind)) empty pending.Nothing
opens_as Group = shape Opened empty pending.Nothing
opens_as Choice = shape (Inside Choice) empty pending.Nothing

-- what is in the brackets of the head leads on
abbrev pub Fills : Head → Parts → List Shape → Type 0
Fills h qs os = (rest : List Sign) → go (opens_as h) os (spelling qs ++ rest) ≡ go (shape (Inside h) qs pending.Nothing) os rest

node_goes : (b : Bracket) (ps : Parts) (f : Option Written) (kind : Written) (qs : Parts) (os : List Shape) (rest : List Sign) → holds b ≡ true → Fills (Node kind) qs (shape b ps (begun_field f) ∷ os) →
    go (shape b ps (begun_field f)) os (head_spelling (Node kind) (spelling qs) ++ rest) ≡ go (shape b (more ps (item f (Node kind) qs None [])) pending.Nothing) os rest
node_goes b ps f kind qs os rest g fills =
    stepped (shape b ps (begun_field f)) (shape Opened empty pending.Nothing) os (shape b ps (begun_field f) ∷ os) sign.Open (sign.Name kind ∷ ((spelling qs ++ sign.Close ∷ []) ++ rest)) (open_goes Opened b ps f os g)
    ∙ ap (go (shape (Inside (Node kind)) empty pending.Nothing) (shape b ps (begun_field f) ∷ os)) (append_assoc (spelling qs) (sign.Close ∷ []) rest)
    ∙ fills (sign.Close ∷ rest)
    ∙ ap (λ (o : Option Open). run_from o rest) (unit_goes b ps f os (Node kind) qs (flushed (before_of qs) (last_of qs)) true g (flushed_all qs) refl)

choice_goes : (b : Bracket) (ps : Parts) (f : Option Written) (qs : Parts) (os : List Shape) (rest : List Sign) → holds b ≡ true → has_item qs ≡ true → Fills Choice qs (shape b ps (begun_field f) ∷ os) →
    go (shape b ps (begun_field f)) os (head_spelling Choice (spelling qs) ++ rest) ≡ go (shape b (more ps (item f Choice qs None [])) pending.Nothing) os rest
choice_goes b ps f qs os rest g filled fills =
    stepped (shape b ps (begun_field f)) (shape (Inside Choice) empty pending.Nothing) os (shape b ps (begun_field f) ∷ os) sign.OpenChoice ((spelling qs ++ sign.CloseChoice ∷ []) ++ rest) (open_goes (Inside Choice) b ps f os g)
    ∙ ap (go (shape (Inside Choice) empty pending.Nothing) (shape b ps (begun_field f) ∷ os)) (append_assoc (spelling qs) (sign.CloseChoice ∷ []) rest)
    ∙ fills (sign.CloseChoice ∷ rest)
    ∙ ap (λ (k : Bool). run_from (if k then put Choice (content_of qs) true (levels (shape b ps (begun_field f) ∷ os)) else None) rest) filled
    ∙ ap (λ (o : Option Open). run_from o rest) (unit_goes b ps f os Choice qs (flushed (before_of qs) (last_of qs)) true g (flushed_all qs) refl)

group_goes : (b : Bracket) (ps : Parts) (qs : Parts) (os : List Shape) (rest : List Sign) → holds b ≡ true → has_item qs ≡ true → Fills Group qs (shape b ps pending.Nothing ∷ os) →
    go (shape b ps pending.Nothing) os (head_spelling Group (spelling qs) ++ rest) ≡ go (shape b (more ps (item None Group qs None [])) pending.Nothing) os rest
group_goes b ps qs os rest g filled fills =
    stepped (shape b ps pending.Nothing) (shape Opened empty pending.Nothing) os (shape b ps pending.Nothing ∷ os) sign.Open ((spelling qs ++ sign.Close ∷ []) ++ rest) (open_goes Opened b ps None os g)
    ∙ ap (go (shape Opened empty pending.Nothing) (shape b ps pending.Nothing ∷ os)) (append_assoc (spelling qs) (sign.Close ∷ []) rest)
    ∙ fills (sign.Close ∷ rest)
    ∙ ap (λ (k : Bool). run_from (if k then put Group (content_of qs) (is_loose qs) (levels (shape b ps pending.Nothing ∷ os)) else None) rest) filled
    ∙ ap (λ (o : Option Open). run_from o rest) (unit_goes b ps None os Group qs (flushed (before_of qs) (last_of qs)) (is_loose qs) g (flushed_all qs) refl)

-- ---- the first part of a group

entered_group : (os : List Shape) → groups_at os ≡ true → entered (frame_at Opened empty os) ≡ frame_at (Inside Group) empty os
entered_group os e = ap (λ (k : Bool). if k then as_group (frame_at Opened empty os) else frame_at Opened empty os) e

-- behind `(` and behind a group with nothing in it the signs lead on alike
abbrev Alike : List Shape → List Sign → Type 0
Alike os ss = go (shape Opened empty pending.Nothing) os ss ≡ go (shape (Inside Group) empty pending.Nothing) os ss

alike_open : (c : Bracket) (os : List Shape) (ss : List Sign) → groups_at os ≡ true →
    run_from (opened (level_at (shape Opened empty pending.Nothing) os) c (levels os)) ss ≡ run_from (opened (level_at (shape (Inside Group) empty pending.Nothing) os) c (levels os)) ss
alike_open c os ss e = ap (λ (x : Frame). run_from (opened_in x pending.Nothing c (levels os)) ss) (entered_group os e)

kind_there : (v : Written) (os : List Shape) → groups_at os ≡ true → lone_kind (frame_at (Inside (Node v)) empty os) ≡ Some v
kind_there v os e = ap (λ (k : Bool). if not k || false then None else Some v) e

alike_field : (v : Written) (os : List Shape) (ss : List Sign) → groups_at os ≡ true → Alike os (sign.Name v ∷ sign.Colon ∷ ss)
alike_field v os ss e =
    ap (λ (o : Option Written). run_from (within (levels os) (colon_behind (frame_at (Inside (Node v)) empty os) o)) ss) (kind_there v os e)
    ∙ sym (field_goes (Inside Group) empty (Some v) os ss refl)

lone_there : (at : ℕ) (os : List Shape) → groups_at os ≡ true → lone_wild (frame_at (Inside (Node (wild at))) empty os) ≡ Some at
lone_there at os e = ap wild_place (kind_there (wild at) os e)

alike_mark : (at : ℕ) (m : Mark) (os : List Shape) (ss : List Sign) → groups_at os ≡ true → Alike os (sign.Name (wild at) ∷ sign.Mark m ∷ ss)
alike_mark at m os ss e =
    ap (λ (o : Option ℕ). run_from (within (levels os) (frame_ready (frame_marked (regrouped_at (frame_at (Inside (Node (wild at))) empty os) o) m))) ss) (lone_there at os e)
    ∙ sym (stepped (shape (Inside Group) empty pending.Nothing) (shape (Inside Group) (more empty (item None (Any at) empty None [])) pending.Nothing) os os (sign.Name (wild at)) (sign.Mark m ∷ ss) (any_goes (Inside Group) empty None at os refl)
    ∙ stepped (shape (Inside Group) (more empty (item None (Any at) empty None [])) pending.Nothing) (shape (Inside Group) (more empty (item None (Any at) empty (Some m) [])) pending.Nothing) os os (sign.Mark m) ss
    (mark_goes (Inside Group) empty None (Any at) empty m os refl refl))

alike_capture : (at : ℕ) (c : Written) (os : List Shape) (ss : List Sign) → groups_at os ≡ true → Alike os (sign.Name (wild at) ∷ sign.Capture c ∷ ss)
alike_capture at c os ss e =
    ap (λ (o : Option ℕ). run_from (within (levels os) (frame_ready (frame_captured (regrouped_at (frame_at (Inside (Node (wild at))) empty os) o) c))) ss) (lone_there at os e)
    ∙ sym (stepped (shape (Inside Group) empty pending.Nothing) (shape (Inside Group) (more empty (item None (Any at) empty None [])) pending.Nothing) os os (sign.Name (wild at)) (sign.Capture c ∷ ss) (any_goes (Inside Group) empty None at os refl)
    ∙ stepped (shape (Inside Group) (more empty (item None (Any at) empty None [])) pending.Nothing) (shape (Inside Group) (more empty (item None (Any at) empty None (c ∷ []))) pending.Nothing) os os (sign.Capture c) ss
    (capture_goes (Inside Group) empty None (Any at) empty None [] c os refl))

alike_text : (w : Written) (os : List Shape) (ss : List Sign) → groups_at os ≡ true → Alike os (sign.Text w ∷ ss)
alike_text w os ss e = ap (λ (x : Frame). run_from (within (levels os) (level_with (level x pending.Nothing) (Text w) [] true)) ss) (entered_group os e)

alike_anchor : (os : List Shape) (ss : List Sign) → groups_at os ≡ true → Alike os (sign.Anchor ∷ ss)
alike_anchor os ss e = ap (λ (x : Frame). run_from (within (levels os) (if holds_anchors x then Some (ready (frame_and x value.Anchor true)) else None)) ss) (entered_group os e)

first_alike : (q : Part) (os : List Shape) (rest : List Sign) → begins_group q ≡ true → IsFormed q → groups_at os ≡ true → Alike os (part_spelling q ++ rest)
first_alike (item None (Any at) qs None []) os rest b made e = absurd (true≢false (sym b))
first_alike (item None (Any at) empty None (c ∷ cs)) os rest b made e = alike_capture at c os (map sign.Capture cs ++ rest) e
first_alike (item None (Any at) (more qs q) None (c ∷ cs)) os rest b made e = absurd (true≢false (sym made.2.1))
first_alike (item None (Any at) empty (Some m) cs) os rest b made e = alike_mark at m os (map sign.Capture cs ++ rest) e
first_alike (item None (Any at) (more qs q) (Some m) cs) os rest b made e = absurd (true≢false (sym made.2.1))
first_alike (item None (Text w) qs m cs) os rest b made e = alike_text w os ((spelling qs ++ (mark_spelling m ++ map sign.Capture cs)) ++ rest) e
first_alike (item None (Node kind) qs m cs) os rest b made e = alike_open Opened os (sign.Name kind ∷ (((spelling qs ++ sign.Close ∷ []) ++ (mark_spelling m ++ map sign.Capture cs)) ++ rest)) e
first_alike (item None Group qs m cs) os rest b made e = alike_open Opened os (((spelling qs ++ sign.Close ∷ []) ++ (mark_spelling m ++ map sign.Capture cs)) ++ rest) e
first_alike (item None Choice qs m cs) os rest b made e = alike_open (Inside Choice) os (((spelling qs ++ sign.CloseChoice ∷ []) ++ (mark_spelling m ++ map sign.Capture cs)) ++ rest) e
first_alike (item (Some v) h qs m cs) os rest b made e =
    alike_field v os ((head_spelling h (spelling qs) ++ (mark_spelling m ++ map sign.Capture cs)) ++ rest) e
first_alike anchor os rest b made e = alike_anchor os rest e
first_alike (without w) os rest b made e = absurd (true≢false (sym b))
first_alike (predicate w xs) os rest b made e = absurd (true≢false (sym b))

-- ---- all parts

-- the head leads to an item without quantifier and captures
abbrev HeadGoes : Bracket → Parts → Option Written → Head → Parts → List Shape → Type 0
HeadGoes b ps f h qs os =
    (rest : List Sign) → go (shape b ps (begun_field f)) os (head_spelling h (spelling qs) ++ rest) ≡ go (shape b (more ps (item f h qs None [])) pending.Nothing) os rest

item_goes : (f : Option Written) (h : Head) (qs : Parts) (m : Option Mark) (cs : List Written) (b : Bracket) (ps : Parts) (os : List Shape) (rest : List Sign) → holds b ≡ true →
    may_follow b ps (item f h qs m cs) ≡ true → is_fitting f h qs m cs ≡ true → HeadGoes b ps f h qs os →
    go (shape b ps pending.Nothing) os (part_spelling (item f h qs m cs) ++ rest) ≡ go (shape b (more ps (item f h qs m cs)) pending.Nothing) os rest
item_goes f h qs m cs b ps os rest g follows fitting head =
    ap (go (shape b ps pending.Nothing) os)
    (append_assoc (field_spelling f) (head_spelling h (spelling qs) ++ (mark_spelling m ++ map sign.Capture cs)) rest
    ∙ ap (λ (t : List Sign). field_spelling f ++ t) (append_assoc (head_spelling h (spelling qs)) (mark_spelling m ++ map sign.Capture cs) rest)
    ∙ ap (λ (t : List Sign). field_spelling f ++ (head_spelling h (spelling qs) ++ t)) (append_assoc (mark_spelling m) (map sign.Capture cs) rest))
    ∙ field_goes b ps f os (head_spelling h (spelling qs) ++ (mark_spelling m ++ (map sign.Capture cs ++ rest))) g
    ∙ head (mark_spelling m ++ (map sign.Capture cs ++ rest))
    ∙ tail_goes b ps f h qs m cs os rest follows fitting

groups_hold : (b : Bracket) (ps qs : Parts) (m : Option Mark) (cs : List Written) → holds b ≡ true → may_follow b ps (item None Group qs m cs) ≡ true → holds_groups b ≡ true
groups_hold Top ps qs m cs g e = refl
groups_hold Opened ps qs m cs g e = g
groups_hold (Inside (Any at)) ps qs m cs g e = refl
groups_hold (Inside (Text text)) ps qs m cs g e = refl
groups_hold (Inside (Node kind)) ps qs m cs g e = refl
groups_hold (Inside Group) ps qs m cs g e = refl
groups_hold (Inside Choice) ps qs None cs g e = e
groups_hold (Inside Choice) ps qs (Some m) cs g e = e

-- a group with these parts in it, or with none yet
abbrev group_at : Parts → Shape
group_at empty = shape Opened empty pending.Nothing
group_at (more qs q) = shape (Inside Group) (more qs q) pending.Nothing

group_last : (qs : Parts) (q : Part) (os : List Shape) (rest : List Sign) → groups_at os ≡ true → may_follow (Inside Group) qs q ≡ true → IsFormed q →
    go (shape (Inside Group) qs pending.Nothing) os (part_spelling q ++ rest) ≡ go (shape (Inside Group) (more qs q) pending.Nothing) os rest →
    go (group_at qs) os (part_spelling q ++ rest) ≡ go (shape (Inside Group) (more qs q) pending.Nothing) os rest
group_last empty q os rest e follows made h = first_alike q os rest follows made e ∙ h
group_last (more qs p) q os rest e follows made h = h

group_whole : (qs : Parts) → has_item qs ≡ true → group_at qs ≡ shape (Inside Group) qs pending.Nothing
group_whole empty e = absurd (true≢false (sym e))
group_whole (more qs q) e = refl

mutual
  part_goes : (q : Part) (b : Bracket) (ps : Parts) (os : List Shape) (rest : List Sign) → holds b ≡ true → may_follow b ps q ≡ true → IsFormed q →
      go (shape b ps pending.Nothing) os (part_spelling q ++ rest) ≡ go (shape b (more ps q) pending.Nothing) os rest
  part_goes (item f (Any at) empty m cs) b ps os rest g e made =
      item_goes f (Any at) empty m cs b ps os rest g e made.1
      (λ r. stepped (shape b ps (begun_field f)) (shape b (more ps (item f (Any at) empty None [])) pending.Nothing) os os (sign.Name (wild at)) r (any_goes b ps f at os g))
  part_goes (item f (Any at) (more qs q) m cs) b ps os rest g e made = absurd (true≢false (sym made.2.1))
  part_goes (item f (Text w) empty m cs) b ps os rest g e made =
      item_goes f (Text w) empty m cs b ps os rest g e made.1
      (λ r. stepped (shape b ps (begun_field f)) (shape b (more ps (item f (Text w) empty None [])) pending.Nothing) os os (sign.Text w) r (text_goes b ps f w os g))
  part_goes (item f (Text w) (more qs q) m cs) b ps os rest g e made = absurd (true≢false (sym made.2.1))
  part_goes (item f (Node kind) qs m cs) b ps os rest g e made =
      item_goes f (Node kind) qs m cs b ps os rest g e made.1
      (λ r. node_goes b ps f kind qs os r g (λ t. parts_go qs (Inside (Node kind)) (shape b ps (begun_field f) ∷ os) t refl made.2))
  part_goes (item None Group qs m cs) b ps os rest g e made =
      item_goes None Group qs m cs b ps os rest g e made.1
      (λ r. group_goes b ps qs os r g made.0
      (λ t. group_go qs (shape b ps pending.Nothing ∷ os) t (groups_hold b ps qs m cs g e) made.2
      ∙ ap (λ (x : Shape). go x (shape b ps pending.Nothing ∷ os) t) (group_whole qs made.0)))
  part_goes (item (Some v) Group qs m cs) b ps os rest g e made = absurd (true≢false (sym made.1))
  part_goes (item f Choice qs m cs) b ps os rest g e made =
      item_goes f Choice qs m cs b ps os rest g e made.1
      (λ r. choice_goes b ps f qs os r g made.0 (λ t. parts_go qs (Inside Choice) (shape b ps (begun_field f) ∷ os) t refl made.2))
  part_goes anchor b ps os rest g e made = stepped (shape b ps pending.Nothing) (shape b (more ps anchor) pending.Nothing) os os sign.Anchor rest (anchor_goes b ps os g e)
  part_goes (without w) b ps os rest g e made = stepped (shape b ps pending.Nothing) (shape b (more ps (without w)) pending.Nothing) os os (sign.Without w) rest (without_goes b ps w os e)
  part_goes (predicate w xs) b ps os rest g e made = predicate_goes b ps w xs os rest g e

  parts_go : (qs : Parts) (b : Bracket) (os : List Shape) (rest : List Sign) → holds b ≡ true → AreFormed b qs →
      go (shape b empty pending.Nothing) os (spelling qs ++ rest) ≡ go (shape b qs pending.Nothing) os rest
  parts_go empty b os rest g made = refl
  parts_go (more qs q) b os rest g made =
      ap (go (shape b empty pending.Nothing) os) (append_assoc (spelling qs) (part_spelling q) rest)
      ∙ parts_go qs b os (part_spelling q ++ rest) g made.2 ∙ part_goes q b qs os rest g made.1 made.0

  group_go : (qs : Parts) (os : List Shape) (rest : List Sign) → groups_at os ≡ true → AreFormed (Inside Group) qs →
      go (shape Opened empty pending.Nothing) os (spelling qs ++ rest) ≡ go (group_at qs) os rest
  group_go empty os rest e made = refl
  group_go (more qs q) os rest e made =
      ap (go (shape Opened empty pending.Nothing) os) (append_assoc (spelling qs) (part_spelling q) rest)
      ∙ group_go qs os (part_spelling q ++ rest) e made.2
      ∙ group_last qs q os rest e made.1 made.0 (part_goes q (Inside Group) qs os rest refl made.1 made.0)

-- the signs of a query lead to it
pub run_query : (q : Parts) → AreFormed Top q → run_from start (spelling q) ≡ Some (open_at (shape Top q pending.Nothing) [])
run_query q made = ap (go (shape Top empty pending.Nothing) []) (sym (append-nil (spelling q))) ∙ parts_go q Top [] [] refl made
