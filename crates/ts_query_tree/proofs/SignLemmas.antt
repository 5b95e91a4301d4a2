-- A sign that stands inside a bracket leads to brackets that are open and formed, and that are
-- spelled by that sign more.
use Rattle.std.proofs.Common.{◌≡◌, ℕ, Bool, true, false, not, ◌&&◌, ◌||◌, List, [], ◌∷◌, ◌++◌, map, Option, Some, None, refl, sym, ap, subst, ◌∙◌, append-nil, true≢false, if◌then◌else◌}
use Rattle.std.proofs.lemmas.List.{append_assoc}
use Rattle.std.proofs.lemmas.Option.{none-some, same_Some}
use Rattle.ts_query_tree.specs.declared.tree.Written.{Written}
use Rattle.ts_query_tree.specs.declared.tree.Mark.{Mark}
use Rattle.ts_query_tree.specs.declared.tree.Head.{Head}
use Rattle.ts_query_tree.specs.declared.tree.Head.TheVariants.{Any, Text, Node, Group, Choice}
use Rattle.ts_query_tree.specs.declared.tree.Operand.{Operand}
use Rattle.ts_query_tree.specs.declared.tree.Operand.TheVariants as operand
use Rattle.ts_query_tree.specs.declared.tree.Part.{Part as Value}
use Rattle.ts_query_tree.specs.declared.tree.Part.TheVariants as value
use Rattle.ts_query_tree.specs.declared.level.Bracket.{Bracket}
use Rattle.ts_query_tree.specs.declared.level.Bracket.TheVariants.{Top, Opened, Inside}
use Rattle.ts_query_tree.specs.declared.level.Pending.{Pending}
use Rattle.ts_query_tree.specs.declared.level.Pending.TheVariants as pending
use Rattle.ts_query_tree.specs.declared.level.Content.{Content}
use Rattle.ts_query_tree.specs.declared.level.Frame.{Frame}
use Rattle.ts_query_tree.specs.declared.level.Level.{Level}
use Rattle.ts_query_tree.specs.declared.sign.Sign.{Sign}
use Rattle.ts_query_tree.specs.declared.sign.Sign.TheVariants as sign
use Rattle.ts_query_tree.specs.Words.{is_wild}
use Rattle.ts_query_tree.specs.Trees.{Parts, empty, more, Part, item, anchor, without, predicate, wild, spelling, part_spelling, head_spelling, field_spelling, mark_spelling, operand_sign, is_none, is_nil, is_group, is_loose, may_follow, begins_group, is_fitting, AreFormed, IsFormed, values_of}
use Rattle.ts_query_tree.specs.Machine.{Open, frame_of, as_group, level, ready, is_begun, content_with, content_in, frame_and, marked, captured, last_is, with_mark, with_capture, fresh, frame_with, is_opened, entered, kind_of, lone_kind, lone_wild, wild_place, wild_is_field, bare_wild, colon_behind, regrouped_at, is_choice, frame_marked, frame_captured, frame_ready, named, item_named, colon_in, anchors_in, holds_anchors, is_due, level_with, within, next}
use Rattle.ts_query_tree.proofs.Shapes.{Shape, shape, takes_mark, content_of, groups_at, asks_at, frame_in, frame_at, level_at, levels, open_at, shape_spelling, spelled, bracket_spelling, pending_spelling, holds, Begun, Linked, Here, AreRound, Formed, IsStarted, Grows}
use Rattle.ts_query_tree.proofs.ShapeLemmas.{attach_part, attach_begun, attach_last, map_push, content_anchor, content_without, content_captured, wild_is, field_in, with_unit, unit_is, unit_in_field, field_is, wild_field_is, unit_added, spelled_more, unit_spells, started_more, unit_follows, wild_follows, begins_unit}

-- ---- options and tests

pub taken : {A : Type 0} (b : Bool) (o : Option A) (z : A) → (if b then o else None) ≡ Some z → (b ≡ true) × (o ≡ Some z)
taken true o z e = (refl, e)
taken false o z e = absurd (none-some z e)

spared : {A : Type 0} (b : Bool) (o : Option A) (z : A) → (if b then None else o) ≡ Some z → (b ≡ false) × (o ≡ Some z)
spared true o z e = absurd (none-some z e)
spared false o z e = (refl, e)

pub both : (a b : Bool) → (a && b) ≡ true → (a ≡ true) × (b ≡ true)
both true b e = (refl, e)
both false b e = absurd (true≢false (sym e))

pub within_some : (o : List Level) (r : Option Level) (z : Open) → within o r ≡ Some z → (l : Level) × (r ≡ Some l) × (z ≡ (l, o))
within_some o None z e = absurd (none-some z e)
within_some o (Some l) z e = (l, refl, sym (same_Some _ _ e))

pub negated : (b : Bool) → not b ≡ true → b ≡ false
negated true e = absurd (true≢false (sym e))
negated false e = refl

-- ---- what is formed

pub opened_empty : (ps : Parts) → AreFormed Opened ps → ps ≡ empty
opened_empty empty f = refl
opened_empty (more ps q) f = absurd (true≢false (sym f.1))

pub holds_formed : (b : Bracket) (ps : Parts) (p : Pending) (os : List Shape) → Here b ps p os → is_opened b ≡ false → holds b ≡ true
holds_formed Top ps p os f n = refl
holds_formed Opened ps p os f n = absurd (true≢false n)
holds_formed (Inside (Any at)) ps p [] f n = absurd f.link
holds_formed (Inside (Any at)) ps p (r ∷ os) f n = absurd f.link
holds_formed (Inside (Text text)) ps p [] f n = absurd f.link
holds_formed (Inside (Text text)) ps p (r ∷ os) f n = absurd f.link
holds_formed (Inside (Node kind)) ps p os f n = refl
holds_formed (Inside Group) ps p os f n = refl
holds_formed (Inside Choice) ps p os f n = refl

some_there : (xs : List Value) (x : Value) → (not (is_nil (xs ++ x ∷ [])) || false) ≡ false → ⊥
some_there [] x e = true≢false e
some_there (y ∷ xs) x e = true≢false e

begun_empty : (ps : Parts) → is_begun (content_of ps) ≡ false → ps ≡ empty
begun_empty empty e = refl
begun_empty (more ps (item f h qs m cs)) e = absurd (last_there (is_nil (values_of ps)) e)
  where
    last_there : (b : Bool) → (not b || true) ≡ false → ⊥
    last_there true e = true≢false e
    last_there false e = true≢false e
begun_empty (more ps anchor) e = absurd (some_there (values_of ps) value.Anchor e)
begun_empty (more ps (without w)) e = absurd (some_there (values_of ps) (value.Without w) e)
begun_empty (more ps (predicate w os)) e = absurd (some_there (values_of ps) (value.Predicate w os) e)

-- ---- grown

pub unit_grown : (b : Bracket) (ps : Parts) (p : Pending) (os : List Shape) (h : Head) (qs : Parts) (x : Shape) (round : List Shape) (s : Sign) (z : Open) →
    is_due p ≡ true → Formed (shape b ps p) os → may_follow b ps (item (field_in p) h qs None []) ≡ true → IsFormed (item (field_in p) h qs None []) →
    spelled (shape b ps p) os ++ head_spelling h (spelling qs) ≡ spelled x round ++ s ∷ [] → z ≡ open_at (with_unit b ps p h qs) os → Grows x round s z
unit_grown b ps p os h qs x round s z d f follows made spells e = record {
  inner = with_unit b ps p h qs;
  round = os;
  same = e;
  spells = spelled_more (shape b ps p) (with_unit b ps p h qs) os (head_spelling h (spelling qs)) (unit_spells b ps p h qs d) ∙ spells;
  formed = record { here = record { parts = (made, follows, f.here.parts); begun = tt; link = f.here.link }; round = f.round };
  started = started_more b ps (item (field_in p) h qs None []) pending.Nothing;
}

-- another part
pub part_grown : (b : Bracket) (ps : Parts) (p : Pending) (os : List Shape) (q : Part) (s : Sign) (z : Open) → part_spelling q ≡ pending_spelling p ++ s ∷ [] →
    Formed (shape b ps p) os → may_follow b ps q ≡ true → IsFormed q → z ≡ open_at (shape b (more ps q) pending.Nothing) os → Grows (shape b ps p) os s z
part_grown b ps p os q s z parts f follows made e = record {
  inner = shape b (more ps q) pending.Nothing;
  round = os;
  same = e;
  spells = spelled_more (shape b ps p) (shape b (more ps q) pending.Nothing) os (s ∷ []) (attach_part (bracket_spelling b) (spelling ps) (pending_spelling p) (part_spelling q) (s ∷ []) parts);
  formed = record { here = record { parts = (made, follows, f.here.parts); begun = tt; link = f.here.link }; round = f.round };
  started = started_more b ps q pending.Nothing;
}

-- something else is begun
begun_grown : (b : Bracket) (ps : Parts) (p q : Pending) (os : List Shape) (s : Sign) (z : Open) → pending_spelling q ≡ pending_spelling p ++ s ∷ [] →
    Formed (shape b ps p) os → Begun b ps q → IsStarted (shape b ps q) → z ≡ open_at (shape b ps q) os → Grows (shape b ps p) os s z
begun_grown b ps p q os s z signs f begun started e = record {
  inner = shape b ps q;
  round = os;
  same = e;
  spells = spelled_more (shape b ps p) (shape b ps q) os (s ∷ []) (attach_begun (bracket_spelling b) (spelling ps) (pending_spelling p) (pending_spelling q) (s ∷ []) signs);
  formed = record { here = record { parts = f.here.parts; begun = begun; link = f.here.link }; round = f.round };
  started = started;
}

pub started_asking : (b : Bracket) (ps : Parts) (w : Written) (os : List Operand) → IsStarted (shape b ps (pending.Predicate w os))
started_asking Top ps w os = tt
started_asking Opened ps w os = tt
started_asking (Inside (Any at)) ps w os = tt
started_asking (Inside (Text text)) ps w os = tt
started_asking (Inside (Node kind)) ps w os = tt
started_asking (Inside Group) empty w os = tt
started_asking (Inside Group) (more ps q) w os = tt
started_asking (Inside Choice) ps w os = tt

started_name : (b : Bracket) (ps : Parts) (w : Written) → IsStarted (shape b ps (pending.Name w))
started_name Top ps w = tt
started_name Opened ps w = tt
started_name (Inside (Any at)) ps w = tt
started_name (Inside (Text text)) ps w = tt
started_name (Inside (Node kind)) ps w = tt
started_name (Inside Group) empty w = tt
started_name (Inside Group) (more ps q) w = tt
started_name (Inside Choice) ps w = tt

started_field : (b : Bracket) (ps : Parts) (w : Written) → IsStarted (shape b ps (pending.Field w))
started_field Top ps w = tt
started_field Opened ps w = tt
started_field (Inside (Any at)) ps w = tt
started_field (Inside (Text text)) ps w = tt
started_field (Inside (Node kind)) ps w = tt
started_field (Inside Group) empty w = tt
started_field (Inside Group) (more ps q) w = tt
started_field (Inside Choice) ps w = tt

operand_grown : (b : Bracket) (ps : Parts) (w : Written) (ops : List Operand) (os : List Shape) (o : Operand) (z : Open) → Formed (shape b ps (pending.Predicate w ops)) os →
    z ≡ open_at (shape b ps (pending.Predicate w (ops ++ o ∷ []))) os → Grows (shape b ps (pending.Predicate w ops)) os (operand_sign o) z
operand_grown b ps w ops os o z f e =
    begun_grown b ps (pending.Predicate w ops) (pending.Predicate w (ops ++ o ∷ [])) os (operand_sign o) z
    (ap (λ (t : List Sign). sign.Open ∷ sign.Predicate w ∷ t) (map_push operand_sign ops o)) f f.here.begun (started_asking b ps w (ops ++ o ∷ [])) e

-- ---- `(` that goes on as a group

spelled_same : (x y : Shape) (os : List Shape) → shape_spelling x ≡ shape_spelling y → spelled x os ≡ spelled y os
spelled_same x y [] e = e
spelled_same x y (r ∷ os) e = ap (λ (t : List Sign). spelled r os ++ t) e

pub shifted : (x y : Shape) (os : List Shape) (s : Sign) (z : Open) → shape_spelling x ≡ shape_spelling y → Grows x os s z → Grows y os s z
shifted x y os s z e g = record {
  inner = g.inner;
  round = g.round;
  same = g.same;
  spells = g.spells ∙ ap (λ (t : List Sign). t ++ s ∷ []) (spelled_same x y os e);
  formed = g.formed;
  started = g.started;
}

pub record Enters (b : Bracket) (ps : Parts) (p : Pending) (os : List Shape) : Type 0 where
  pub bracket : Bracket
  pub frame : entered (frame_in b ps p os) ≡ frame_in bracket ps p os
  pub here : Here bracket ps p os
  pub spells : shape_spelling (shape bracket ps p) ≡ shape_spelling (shape b ps p)

pub begun_opened : (ps : Parts) (p : Pending) → Begun Opened ps p → p ≡ pending.Nothing
begun_opened ps pending.Nothing h = refl
begun_opened ps (pending.Name w) h = absurd (true≢false (sym h))
begun_opened ps (pending.Field w) h = absurd (true≢false (sym h))
begun_opened ps (pending.Predicate w os) h = absurd (true≢false (sym h.0))

group_link : (os : List Shape) → Linked Opened os → groups_at os ≡ true → Linked (Inside Group) os
group_link [] l e = absurd l
group_link (r ∷ os) l e = e

group_parts : (ps : Parts) → AreFormed Opened ps → AreFormed (Inside Group) ps
group_parts empty f = tt
group_parts (more ps q) f = absurd (true≢false (sym f.1))

enters_opened : (ps : Parts) (p : Pending) (os : List Shape) → Here Opened ps p os → (k : Bool) → groups_at os ≡ k → Enters Opened ps p os
enters_opened ps p os h true e = record {
  bracket = Inside Group;
  frame = ap (λ (k : Bool). if k then as_group (frame_in Opened ps p os) else frame_in Opened ps p os) e;
  here = record {
    parts = group_parts ps h.parts;
    begun = subst (Begun (Inside Group) ps) (sym (begun_opened ps p h.begun)) tt;
    link = group_link os h.link e;
  };
  spells = refl;
}
enters_opened ps p os h false e = record {
  bracket = Opened;
  frame = ap (λ (k : Bool). if k then as_group (frame_in Opened ps p os) else frame_in Opened ps p os) e;
  here = h;
  spells = refl;
}

pub enters : (b : Bracket) (ps : Parts) (p : Pending) (os : List Shape) → Here b ps p os → Enters b ps p os
enters Top ps p os h = record { bracket = Top; frame = refl; here = h; spells = refl }
enters Opened ps p os h = enters_opened ps p os h (groups_at os) refl
enters (Inside k) ps p os h = record { bracket = Inside k; frame = refl; here = h; spells = refl }

-- ---- strings

level_due : (b : Bracket) (ps : Parts) (p : Pending) (os : List Shape) (h : Head) (xs : List Value) (r : Bool) (l : Level) → Here b ps p os →
    level_with (level_at (shape b ps p) os) h xs r ≡ Some l → (holds b ≡ true) × (is_due p ≡ true)
level_due Top ps pending.Nothing os h xs r l f e = (refl, refl)
level_due Top ps (pending.Name w) os h xs r l f e = absurd (none-some l e)
level_due Top ps (pending.Field w) os h xs r l f e = (refl, refl)
level_due Top ps (pending.Predicate w o) os h xs r l f e = absurd (none-some l e)
level_due Opened ps p os h xs r l f e = absurd (none-some l e)
level_due (Inside k) ps pending.Nothing os h xs r l f e = (holds_formed (Inside k) ps pending.Nothing os f refl, refl)
level_due (Inside k) ps (pending.Name w) os h xs r l f e = absurd (none-some l e)
level_due (Inside k) ps (pending.Field w) os h xs r l f e = (holds_formed (Inside k) ps (pending.Field w) os f refl, refl)
level_due (Inside k) ps (pending.Predicate w o) os h xs r l f e = absurd (none-some l e)

pub fits : (b : Bracket) (ps : Parts) (p : Pending) (h : Head) (qs : Parts) → Begun b ps p → is_due p ≡ true → is_group h ≡ false → is_fitting (field_in p) h qs None [] ≡ true
fits b ps pending.Nothing h qs f d n = ap (λ (k : Bool). if k then true else true) n
fits b ps (pending.Name w) h qs f d n = absurd (true≢false (sym d))
fits b ps (pending.Field w) h qs f d n = ap not n
fits b ps (pending.Predicate w o) h qs f d n = absurd (true≢false (sym d))

text_grown : (b : Bracket) (ps : Parts) (p : Pending) (os : List Shape) (w : Written) (l : Level) (z : Open) → Formed (shape b ps p) os →
    level_with (level_at (shape b ps p) os) (Text w) [] true ≡ Some l → z ≡ (l, levels os) → Grows (shape b ps p) os (sign.Text w) z
text_grown b ps p os w l z f e ez =
    let due = level_due b ps p os (Text w) [] true l f.here e in
    let is : l ≡ level_at (with_unit b ps p (Text w) empty) os = same_Some _ _ (sym e ∙ unit_added b ps p os (Text w) empty [] true due.0 due.1 refl refl) in
    unit_grown b ps p os (Text w) empty (shape b ps p) os (sign.Text w) z due.1 f
    (unit_follows b ps (field_in p) (Text w) empty due.0 refl (begins_unit (field_in p) w))
    (refl, fits b ps p (Text w) empty f.here.begun due.1 refl, tt) refl (ez ∙ ap (λ (t : Level). (t, levels os)) is)

text_entered : (b : Bracket) (ps : Parts) (p : Pending) (os : List Shape) (w : Written) (l : Level) (z : Open) → Formed (shape b ps p) os →
    level_with (level (entered (frame_in b ps p os)) p) (Text w) [] true ≡ Some l → z ≡ (l, levels os) → Grows (shape b ps p) os (sign.Text w) z
text_entered b ps p os w l z f e ez =
    let i = enters b ps p os f.here in
    shifted (shape i.bracket ps p) (shape b ps p) os (sign.Text w) z i.spells
    (text_grown i.bracket ps p os w l z (record { here = i.here; round = f.round })
    (subst (λ (x : Frame). level_with (level x p) (Text w) [] true ≡ Some l) i.frame e) ez)

pub text_step : (b : Bracket) (ps : Parts) (p : Pending) (os : List Shape) (w : Written) (z : Open) → Formed (shape b ps p) os →
    next (level_at (shape b ps p) os) (levels os) (sign.Text w) ≡ Some z → Grows (shape b ps p) os (sign.Text w) z
text_step b ps pending.Nothing os w z f e = let a = within_some (levels os) _ z e in text_entered b ps pending.Nothing os w a.0 z f a.1 a.2
text_step b ps (pending.Name v) os w z f e = let a = within_some (levels os) _ z e in text_entered b ps (pending.Name v) os w a.0 z f a.1 a.2
text_step b ps (pending.Field v) os w z f e = let a = within_some (levels os) _ z e in text_entered b ps (pending.Field v) os w a.0 z f a.1 a.2
text_step b ps (pending.Predicate v ops) os w z f e = operand_grown b ps v ops os (operand.Text w) z f (sym (same_Some _ _ e))

-- ---- names

abbrev pub paired : List Level → Level → Open
paired o l = (l, o)

any_grown : (b : Bracket) (ps : Parts) (p : Pending) (os : List Shape) (w : Written) (z : Open) → is_due p ≡ true → is_wild w.text ≡ true → Formed (shape b ps p) os →
    may_follow b ps (item (field_in p) (Any w.at) empty None []) ≡ true → z ≡ open_at (with_unit b ps p (Any w.at) empty) os → Grows (shape b ps p) os (sign.Name w) z
any_grown b ps p os w z d wild_text f follows e =
    unit_grown b ps p os (Any w.at) empty (shape b ps p) os (sign.Name w) z d f follows (refl, fits b ps p (Any w.at) empty f.here.begun d refl, tt)
    (ap (λ (v : Written). spelled (shape b ps p) os ++ sign.Name v ∷ []) (sym (wild_is w wild_text))) e

item_name : (b : Bracket) (ps : Parts) (os : List Shape) (w : Written) (z : Open) → holds b ≡ true → Formed (shape b ps pending.Nothing) os → IsStarted (shape b ps pending.Nothing) →
    z ≡ (item_named (frame_at b ps os) w, levels os) → Grows (shape b ps pending.Nothing) os (sign.Name w) z
item_name b ps os w z g f s e = by (is_wild w.text) refl
  where
    by : (k : Bool) → is_wild w.text ≡ k → Grows (shape b ps pending.Nothing) os (sign.Name w) z
    by true t =
        any_grown b ps pending.Nothing os w z refl t f (wild_follows b ps w.at g s)
        (e ∙ ap (λ (k : Bool). paired (levels os) (if k then ready (frame_with (frame_at b ps os) None (Any w.at) [] true) else level (frame_at b ps os) (pending.Name w))) t
        ∙ ap (paired (levels os)) (unit_is b ps os None (Any w.at) empty [] true refl refl))
    by false t =
        begun_grown b ps pending.Nothing (pending.Name w) os (sign.Name w) z refl f g (started_name b ps w)
        (e ∙ ap (λ (k : Bool). paired (levels os) (if k then ready (frame_with (frame_at b ps os) None (Any w.at) [] true) else level (frame_at b ps os) (pending.Name w))) t)

named_here : (b : Bracket) (ps : Parts) (os : List Shape) (w : Written) (z : Open) → Formed (shape b ps pending.Nothing) os → IsStarted (shape b ps pending.Nothing) →
    z ≡ (named (frame_at b ps os) w, levels os) → Grows (shape b ps pending.Nothing) os (sign.Name w) z
named_here Top ps os w z f s e = item_name Top ps os w z refl f s e
named_here Opened ps [] w z f s e = absurd f.here.link
named_here Opened ps (r ∷ os) w z f s e = subst (λ (qs : Parts). z ≡ (named (frame_at Opened qs (r ∷ os)) w, levels (r ∷ os)) → Grows (shape Opened qs pending.Nothing) (r ∷ os) (sign.Name w) z) (sym (opened_empty ps f.here.parts)) (kind_named r os w z f.round) e
  where
    kind_named : (r : Shape) (os : List Shape) (w : Written) (z : Open) → AreRound (r ∷ os) → z ≡ (named (frame_at Opened empty (r ∷ os)) w, levels (r ∷ os)) → Grows (shape Opened empty pending.Nothing) (r ∷ os) (sign.Name w) z
    kind_named r os w z round e = record {
      inner = shape (Inside (Node w)) empty pending.Nothing;
      round = r ∷ os;
      same = e;
      spells = spelled_more (shape Opened empty pending.Nothing) (shape (Inside (Node w)) empty pending.Nothing) (r ∷ os) (sign.Name w ∷ []) refl;
      formed = record { here = record { parts = tt; begun = tt; link = tt }; round = round };
      started = tt;
    }
named_here (Inside h) ps os w z f s e = item_name (Inside h) ps os w z (holds_formed (Inside h) ps pending.Nothing os f.here refl) f s e

field_follows : (b : Bracket) (ps : Parts) (v : Written) (at : ℕ) → holds b ≡ true → may_follow b ps (item (Some v) (Any at) empty None []) ≡ true
field_follows b ps v at g = unit_follows b ps (Some v) (Any at) empty g refl refl

pub name_step : (b : Bracket) (ps : Parts) (p : Pending) (os : List Shape) (w : Written) (z : Open) → Formed (shape b ps p) os → IsStarted (shape b ps p) →
    next (level_at (shape b ps p) os) (levels os) (sign.Name w) ≡ Some z → Grows (shape b ps p) os (sign.Name w) z
name_step b ps pending.Nothing os w z f s e = named_here b ps os w z f s (sym (same_Some _ _ e))
name_step b ps (pending.Name v) os w z f s e = absurd (none-some z e)
name_step b ps (pending.Field v) os w z f s e =
    let a = within_some (levels os) _ z e in
    let t = taken (is_wild w.text) _ a.0 a.1 in
    any_grown b ps (pending.Field v) os w z refl t.0 f (field_follows b ps v w.at f.here.begun)
    (a.2 ∙ ap (paired (levels os)) (sym (same_Some _ _ t.1) ∙ unit_in_field b ps os v (Any w.at) empty [] true refl refl))
name_step b ps (pending.Predicate v ops) os w z f s e = operand_grown b ps v ops os (operand.Name w) z f (sym (same_Some _ _ e))

-- ---- a lone name that begins a group

-- a round bracket with nothing behind its name, which may be a group
record IsLoneKind (b : Bracket) (ps : Parts) (os : List Shape) (kind : Written) : Type 0 where
  bracket : b ≡ Inside (Node kind)
  parts : ps ≡ empty
  groups : groups_at os ≡ true

kind_there : (b : Bracket) (kind : Written) → kind_of b ≡ Some kind → b ≡ Inside (Node kind)
kind_there Top kind e = absurd (none-some kind e)
kind_there Opened kind e = absurd (none-some kind e)
kind_there (Inside (Any a)) kind e = absurd (none-some kind e)
kind_there (Inside (Text text)) kind e = absurd (none-some kind e)
kind_there (Inside (Node w)) kind e = ap (λ (v : Written). Inside (Node v)) (same_Some _ _ e)
kind_there (Inside Group) kind e = absurd (none-some kind e)
kind_there (Inside Choice) kind e = absurd (none-some kind e)

neither : (a b : Bool) → (not a || b) ≡ false → (a ≡ true) × (b ≡ false)
neither true b e = (refl, e)
neither false b e = absurd (true≢false e)

lone_name : (b : Bracket) (ps : Parts) (os : List Shape) (kind : Written) → lone_kind (frame_at b ps os) ≡ Some kind → IsLoneKind b ps os kind
lone_name b ps os kind e =
    let s = spared (not (groups_at os) || is_begun (content_of ps)) (kind_of b) kind e in
    let n = neither (groups_at os) (is_begun (content_of ps)) s.0 in
    record { bracket = kind_there b kind s.1; parts = begun_empty ps n.1; groups = n.0 }

abbrev IsLone : Bracket → Parts → List Shape → ℕ → Type 0
IsLone b ps os at = IsLoneKind b ps os (wild at)

lone : (b : Bracket) (ps : Parts) (os : List Shape) (at : ℕ) → lone_wild (frame_at b ps os) ≡ Some at → IsLone b ps os at
lone b ps os at e = by (lone_kind (frame_at b ps os)) refl e
  where
    by : (o : Option Written) → lone_kind (frame_at b ps os) ≡ o → wild_place o ≡ Some at → IsLone b ps os at
    by None k h = absurd (none-some at h)
    by (Some kind) k h =
        let t = taken (is_wild kind.text) (Some kind.at) at h in
        subst (IsLoneKind b ps os) (wild_is kind t.0 ∙ ap wild (same_Some _ _ t.1)) (lone_name b ps os kind k)

-- the group behind `(_` with a quantifier or a capture
regrown : (b : Bracket) (ps : Parts) (os : List Shape) (at : ℕ) (m : Option Mark) (cs : List Written) (s : Sign) (z : Open) → IsLone b ps os at → Formed (shape b ps pending.Nothing) os →
    begins_group (item None (Any at) empty m cs) ≡ true → part_spelling (item None (Any at) empty m cs) ≡ sign.Name (wild at) ∷ s ∷ [] →
    z ≡ open_at (shape (Inside Group) (more empty (item None (Any at) empty m cs)) pending.Nothing) os → Grows (shape b ps pending.Nothing) os s z
regrown b ps os at m cs s z l f begins signs e = record {
  inner = shape (Inside Group) (more empty (item None (Any at) empty m cs)) pending.Nothing;
  round = os;
  same = e;
  spells = spelled_more (shape b ps pending.Nothing) (shape (Inside Group) (more empty (item None (Any at) empty m cs)) pending.Nothing) os (s ∷ [])
      (ap (λ (t : List Sign). sign.Open ∷ (t ++ [])) signs ∙ ap (λ (y : Shape). shape_spelling y ++ s ∷ []) before);
  formed = record { here = record { parts = ((refl, refl, tt), begins, tt); begun = tt; link = linked os f.here.link l.groups }; round = f.round };
  started = tt;
}
  where
    before : shape (Inside (Node (wild at))) empty pending.Nothing ≡ shape b ps pending.Nothing
    before =
        ap (λ (c : Bracket). shape c empty pending.Nothing) (sym l.bracket)
        ∙ ap (λ (qs : Parts). shape b qs pending.Nothing) (sym l.parts)

    linked : (rs : List Shape) → Linked b rs → groups_at rs ≡ true → Linked (Inside Group) rs
    linked [] k g = absurd (true≢false (sym g))
    linked (r ∷ rs) k g = g

-- ---- quantifiers and captures

-- the last part is another one
last_grown : (b : Bracket) (ps : Parts) (f : Option Written) (h : Head) (qs : Parts) (m n : Option Mark) (cs ds : List Written) (os : List Shape) (s : Sign) (z : Open) →
    mark_spelling n ++ map sign.Capture ds ≡ (mark_spelling m ++ map sign.Capture cs) ++ s ∷ [] →
    Formed (shape b (more ps (item f h qs m cs)) pending.Nothing) os → may_follow b ps (item f h qs n ds) ≡ true → is_fitting f h qs n ds ≡ true →
    z ≡ open_at (shape b (more ps (item f h qs n ds)) pending.Nothing) os → Grows (shape b (more ps (item f h qs m cs)) pending.Nothing) os s z
last_grown b ps f h qs m n cs ds os s z signs formed follows fitting e = record {
  inner = shape b (more ps (item f h qs n ds)) pending.Nothing;
  round = os;
  same = e;
  spells = spelled_more (shape b (more ps (item f h qs m cs)) pending.Nothing) (shape b (more ps (item f h qs n ds)) pending.Nothing) os (s ∷ [])
      (attach_last (bracket_spelling b) (spelling ps) (field_spelling f) (head_spelling h (spelling qs)) (mark_spelling m ++ map sign.Capture cs) (mark_spelling n ++ map sign.Capture ds) (s ∷ []) signs);
  formed = record {
    here = record {
      parts = ((formed.here.parts.0.0, fitting, formed.here.parts.0.2), follows, formed.here.parts.2);
      begun = tt;
      link = formed.here.link;
    };
    round = formed.round;
  };
  started = started_more b ps (item f h qs n ds) pending.Nothing;
}

begins_marked : (f : Option Written) (h : Head) (qs : Parts) (m : Mark) → begins_group (item f h qs (Some m) []) ≡ true
begins_marked None (Any at) qs m = refl
begins_marked None (Text text) qs m = refl
begins_marked None (Node kind) qs m = refl
begins_marked None Group qs m = refl
begins_marked None Choice qs m = refl
begins_marked (Some v) h qs m = refl

marked_follows : (b : Bracket) (ps : Parts) (f : Option Written) (h : Head) (qs : Parts) (m : Mark) → is_choice b ≡ false →
    may_follow b ps (item f h qs None []) ≡ true → may_follow b ps (item f h qs (Some m) []) ≡ true
marked_follows Top ps f h qs m n e = refl
marked_follows Opened ps f h qs m n e = e
marked_follows (Inside (Any at)) ps f h qs m n e = e
marked_follows (Inside (Text text)) ps f h qs m n e = e
marked_follows (Inside (Node kind)) ps f h qs m n e = refl
marked_follows (Inside Group) empty f h qs m n e = begins_marked f h qs m
marked_follows (Inside Group) (more ps q) f h qs m n e = refl
marked_follows (Inside Choice) ps f h qs m n e = absurd (true≢false n)

marked_fits : (f : Option Written) (h : Head) (qs : Parts) (m : Mark) → takes_mark h qs ≡ true → is_fitting f h qs None [] ≡ true → is_fitting f h qs (Some m) [] ≡ true
marked_fits None (Any at) qs m t e = refl
marked_fits None (Text text) qs m t e = refl
marked_fits None (Node kind) qs m t e = refl
marked_fits None Group qs m t e = t
marked_fits None Choice qs m t e = refl
marked_fits (Some v) h qs m t e = e

framed : (f : Frame) (o : Option Content) (l : Level) → frame_ready (content_in f o) ≡ Some l → (c : Content) × (o ≡ Some c) × (l ≡ ready (frame_of f.bracket f.may_group f.may_ask c))
framed f None l e = absurd (none-some l e)
framed f (Some c) l e = (c, refl, sym (same_Some _ _ e))

ready_if : (b : Bool) (o : Option Frame) (l : Level) → frame_ready (if b then None else o) ≡ Some l → (b ≡ false) × (frame_ready o ≡ Some l)
ready_if true o l e = absurd (none-some l e)
ready_if false o l e = (refl, e)

mark_last : (b : Bracket) (ps : Parts) (os : List Shape) (m : Mark) (l : Level) (z : Open) → Formed (shape b ps pending.Nothing) os → is_choice b ≡ false →
    frame_ready (content_in (frame_at b ps os) (marked (content_of ps) m)) ≡ Some l → z ≡ (l, levels os) → Grows (shape b ps pending.Nothing) os (sign.Mark m) z
mark_last b empty os m l z f n e ez = absurd (none-some l e)
mark_last b (more ps (item v h qs None [])) os m l z f n e ez =
    let x = framed (frame_at b (more ps (item v h qs None [])) os) (marked (content_of (more ps (item v h qs None []))) m) l e in
    let t = taken (takes_mark h qs) _ x.0 x.1 in
    last_grown b ps v h qs None (Some m) [] [] os (sign.Mark m) z refl f (marked_follows b ps v h qs m n f.here.parts.1) (marked_fits v h qs m t.0 f.here.parts.0.1)
    (ez ∙ ap (paired (levels os)) x.2 ∙ ap (λ (c : Content). paired (levels os) (ready (frame_of b (groups_at os) (asks_at os) c))) (sym (same_Some _ _ t.1)))
mark_last b (more ps (item v h qs None (c ∷ cs))) os m l z f n e ez = absurd (none-some l e)
mark_last b (more ps (item v h qs (Some k) cs)) os m l z f n e ez = absurd (none-some l e)
mark_last b (more ps anchor) os m l z f n e ez = absurd (none-some l e)
mark_last b (more ps (without w)) os m l z f n e ez = absurd (none-some l e)
mark_last b (more ps (predicate w ops)) os m l z f n e ez = absurd (none-some l e)

mark_lone : (b : Bracket) (ps : Parts) (os : List Shape) (at : ℕ) (m : Mark) (l : Level) (z : Open) → Formed (shape b ps pending.Nothing) os → IsLone b ps os at →
    frame_ready (frame_marked (frame_with (as_group (frame_at b ps os)) None (Any at) [] true) m) ≡ Some l → z ≡ (l, levels os) → Grows (shape b ps pending.Nothing) os (sign.Mark m) z
mark_lone b ps os at m l z f k e ez =
    regrown b ps os at (Some m) [] (sign.Mark m) z k f refl refl
    (ez ∙ ap (paired (levels os)) (sym (same_Some _ _ e))
    ∙ ap (λ (qs : Parts). paired (levels os) (ready (frame_of (Inside Group) (groups_at os) (asks_at os) (last_is (content_with (content_of qs) (fresh None (Any at) []) true) (with_mark (fresh None (Any at) []) m))))) k.parts)

pub mark_step : (b : Bracket) (ps : Parts) (p : Pending) (os : List Shape) (m : Mark) (z : Open) → Formed (shape b ps p) os →
    next (level_at (shape b ps p) os) (levels os) (sign.Mark m) ≡ Some z → Grows (shape b ps p) os (sign.Mark m) z
mark_step b ps pending.Nothing os m z f e =
    let a = within_some (levels os) _ z e in
    by (lone_wild (frame_at b ps os)) refl a.0 a.1 a.2
  where
    by : (o : Option ℕ) → lone_wild (frame_at b ps os) ≡ o → (l : Level) → frame_ready (frame_marked (regrouped_at (frame_at b ps os) (lone_wild (frame_at b ps os))) m) ≡ Some l →
        z ≡ (l, levels os) → Grows (shape b ps pending.Nothing) os (sign.Mark m) z
    by None k l g ez =
        let here : frame_ready (frame_marked (frame_at b ps os) m) ≡ Some l = subst (λ (o : Option ℕ). frame_ready (frame_marked (regrouped_at (frame_at b ps os) o) m) ≡ Some l) k g in
        let t = ready_if (is_choice b) _ l here in
        mark_last b ps os m l z f t.0 t.1 ez
    by (Some at) k l g ez =
        mark_lone b ps os at m l z f (lone b ps os at k) (subst (λ (o : Option ℕ). frame_ready (frame_marked (regrouped_at (frame_at b ps os) o) m) ≡ Some l) k g) ez
mark_step b ps (pending.Name v) os m z f e = absurd (none-some z e)
mark_step b ps (pending.Field v) os m z f e = absurd (none-some z e)
mark_step b ps (pending.Predicate v ops) os m z f e = absurd (none-some z e)

begins_captured : (f : Option Written) (h : Head) (qs : Parts) (m : Option Mark) (cs : List Written) (c : Written) → begins_group (item f h qs m (cs ++ c ∷ [])) ≡ true
begins_captured None (Any at) qs None [] c = refl
begins_captured None (Any at) qs None (d ∷ cs) c = refl
begins_captured None (Any at) qs (Some m) cs c = refl
begins_captured None (Text text) qs m cs c = refl
begins_captured None (Node kind) qs m cs c = refl
begins_captured None Group qs m cs c = refl
begins_captured None Choice qs m cs c = refl
begins_captured (Some v) h qs m cs c = refl

captured_follows : (b : Bracket) (ps : Parts) (f : Option Written) (h : Head) (qs : Parts) (m : Option Mark) (cs : List Written) (c : Written) →
    may_follow b ps (item f h qs m cs) ≡ true → may_follow b ps (item f h qs m (cs ++ c ∷ [])) ≡ true
captured_follows Top ps f h qs m cs c e = refl
captured_follows Opened ps f h qs m cs c e = e
captured_follows (Inside (Any at)) ps f h qs m cs c e = e
captured_follows (Inside (Text text)) ps f h qs m cs c e = e
captured_follows (Inside (Node kind)) ps f h qs m cs c e = refl
captured_follows (Inside Group) empty f h qs m cs c e = begins_captured f h qs m cs c
captured_follows (Inside Group) (more ps q) f h qs m cs c e = refl
captured_follows (Inside Choice) ps f h qs m cs c e = e

captured_fits : (f : Option Written) (h : Head) (qs : Parts) (m : Option Mark) (cs : List Written) (c : Written) → is_group h ≡ false → is_fitting f h qs m cs ≡ true → is_fitting f h qs m (cs ++ c ∷ []) ≡ true
captured_fits None h qs m cs c n e = ap (λ (k : Bool). if k then is_nil (cs ++ c ∷ []) && (is_none m || is_loose qs) else true) n
captured_fits (Some v) h qs m cs c n e = e

capture_last : (b : Bracket) (ps : Parts) (os : List Shape) (w : Written) (l : Level) (z : Open) → Formed (shape b ps pending.Nothing) os →
    frame_ready (content_in (frame_at b ps os) (captured (content_of ps) w)) ≡ Some l → z ≡ (l, levels os) → Grows (shape b ps pending.Nothing) os (sign.Capture w) z
capture_last b empty os w l z f e ez = absurd (none-some l e)
capture_last b (more ps (item v h qs m cs)) os w l z f e ez =
    let x = framed (frame_at b (more ps (item v h qs m cs)) os) (captured (content_of (more ps (item v h qs m cs))) w) l e in
    let t = spared (is_group h) _ x.0 x.1 in
    last_grown b ps v h qs m m cs (cs ++ w ∷ []) os (sign.Capture w) z
    (ap (λ (u : List Sign). mark_spelling m ++ u) (map_push sign.Capture cs w) ∙ sym (append_assoc (mark_spelling m) (map sign.Capture cs) (sign.Capture w ∷ [])))
    f (captured_follows b ps v h qs m cs w f.here.parts.1) (captured_fits v h qs m cs w t.0 f.here.parts.0.1)
    (ez ∙ ap (paired (levels os)) x.2
    ∙ ap (λ (c : Content). paired (levels os) (ready (frame_of b (groups_at os) (asks_at os) c))) (sym (same_Some _ _ t.1) ∙ content_captured ps v h qs m cs w))
capture_last b (more ps anchor) os w l z f e ez = absurd (none-some l e)
capture_last b (more ps (without v)) os w l z f e ez = absurd (none-some l e)
capture_last b (more ps (predicate v ops)) os w l z f e ez = absurd (none-some l e)

capture_lone : (b : Bracket) (ps : Parts) (os : List Shape) (at : ℕ) (w : Written) (l : Level) (z : Open) → Formed (shape b ps pending.Nothing) os → IsLone b ps os at →
    frame_ready (frame_captured (frame_with (as_group (frame_at b ps os)) None (Any at) [] true) w) ≡ Some l → z ≡ (l, levels os) → Grows (shape b ps pending.Nothing) os (sign.Capture w) z
capture_lone b ps os at w l z f k e ez =
    regrown b ps os at None (w ∷ []) (sign.Capture w) z k f refl refl
    (ez ∙ ap (paired (levels os)) (sym (same_Some _ _ e))
    ∙ ap (λ (qs : Parts). paired (levels os) (ready (frame_of (Inside Group) (groups_at os) (asks_at os) (last_is (content_with (content_of qs) (fresh None (Any at) []) true) (with_capture (fresh None (Any at) []) w))))) k.parts)

pub capture_step : (b : Bracket) (ps : Parts) (p : Pending) (os : List Shape) (w : Written) (z : Open) → Formed (shape b ps p) os →
    next (level_at (shape b ps p) os) (levels os) (sign.Capture w) ≡ Some z → Grows (shape b ps p) os (sign.Capture w) z
capture_step b ps pending.Nothing os w z f e =
    let a = within_some (levels os) _ z e in
    by (lone_wild (frame_at b ps os)) refl a.0 a.1 a.2
  where
    by : (o : Option ℕ) → lone_wild (frame_at b ps os) ≡ o → (l : Level) → frame_ready (frame_captured (regrouped_at (frame_at b ps os) (lone_wild (frame_at b ps os))) w) ≡ Some l →
        z ≡ (l, levels os) → Grows (shape b ps pending.Nothing) os (sign.Capture w) z
    by None k l g ez = capture_last b ps os w l z f (subst (λ (o : Option ℕ). frame_ready (frame_captured (regrouped_at (frame_at b ps os) o) w) ≡ Some l) k g) ez
    by (Some at) k l g ez =
        capture_lone b ps os at w l z f (lone b ps os at k) (subst (λ (o : Option ℕ). frame_ready (frame_captured (regrouped_at (frame_at b ps os) o) w) ≡ Some l) k g) ez
capture_step b ps (pending.Name v) os w z f e = absurd (none-some z e)
capture_step b ps (pending.Field v) os w z f e = absurd (none-some z e)
capture_step b ps (pending.Predicate v ops) os w z f e = operand_grown b ps v ops os (operand.Capture w) z f (sym (same_Some _ _ e))

-- ---- anchors, colons, fields that no child has

anchor_follows : (b : Bracket) (ps : Parts) → anchors_in (content_of ps) b ≡ true → may_follow b ps anchor ≡ true
anchor_follows Top ps e = absurd (true≢false (sym e))
anchor_follows Opened ps e = e
anchor_follows (Inside (Any at)) ps e = e
anchor_follows (Inside (Text text)) ps e = e
anchor_follows (Inside (Node kind)) ps e = e
anchor_follows (Inside Group) empty e = refl
anchor_follows (Inside Group) (more ps q) e = e
anchor_follows (Inside Choice) ps e = e

anchor_in : (b : Bracket) (ps : Parts) (os : List Shape) (l : Level) (z : Open) → Formed (shape b ps pending.Nothing) os →
    (if anchors_in (content_of ps) b then Some (ready (frame_and (frame_at b ps os) value.Anchor true)) else None) ≡ Some l → z ≡ (l, levels os) → Grows (shape b ps pending.Nothing) os sign.Anchor z
anchor_in b ps os l z f e ez =
    let t = taken (anchors_in (content_of ps) b) _ l e in
    part_grown b ps pending.Nothing os anchor sign.Anchor z refl f (anchor_follows b ps t.0) tt
    (ez ∙ ap (paired (levels os)) (sym (same_Some _ _ t.1)) ∙ ap (λ (c : Content). paired (levels os) (ready (frame_of b (groups_at os) (asks_at os) c))) (content_anchor ps))

pub anchor_step : (b : Bracket) (ps : Parts) (p : Pending) (os : List Shape) (z : Open) → Formed (shape b ps p) os →
    next (level_at (shape b ps p) os) (levels os) sign.Anchor ≡ Some z → Grows (shape b ps p) os sign.Anchor z
anchor_step b ps pending.Nothing os z f e =
    let a = within_some (levels os) _ z e in
    let i = enters b ps pending.Nothing os f.here in
    shifted (shape i.bracket ps pending.Nothing) (shape b ps pending.Nothing) os sign.Anchor z i.spells
    (anchor_in i.bracket ps os a.0 z (record { here = i.here; round = f.round })
    (subst (λ (x : Frame). (if holds_anchors x then Some (ready (frame_and x value.Anchor true)) else None) ≡ Some a.0) i.frame a.1) a.2)
anchor_step b ps (pending.Name v) os z f e = absurd (none-some z e)
anchor_step b ps (pending.Field v) os z f e = absurd (none-some z e)
anchor_step b ps (pending.Predicate v ops) os z f e = absurd (none-some z e)

-- a field's name begins a group
kind_colon : (b : Bracket) (ps : Parts) (os : List Shape) (kind : Written) (l : Level) (z : Open) → Formed (shape b ps pending.Nothing) os → IsLoneKind b ps os kind →
    level (as_group (frame_at b ps os)) (pending.Field kind) ≡ l → z ≡ (l, levels os) → Grows (shape b ps pending.Nothing) os sign.Colon z
kind_colon b ps os kind l z f k e ez = record {
  inner = shape (Inside Group) empty (pending.Field kind);
  round = os;
  same = ez ∙ ap (paired (levels os)) (sym e)
      ∙ ap (λ (qs : Parts). paired (levels os) (level (frame_of (Inside Group) (groups_at os) (asks_at os) (content_of qs)) (pending.Field kind))) k.parts;
  spells = spelled_more (shape b ps pending.Nothing) (shape (Inside Group) empty (pending.Field kind)) os (sign.Colon ∷ [])
      (ap (λ (c : Bracket). shape_spelling (shape c empty pending.Nothing) ++ sign.Colon ∷ []) (sym k.bracket)
      ∙ ap (λ (qs : Parts). shape_spelling (shape b qs pending.Nothing) ++ sign.Colon ∷ []) (sym k.parts));
  formed = record { here = record { parts = tt; begun = refl; link = linked os k.groups }; round = f.round };
  started = tt;
}
  where
    linked : (rs : List Shape) → groups_at rs ≡ true → Linked (Inside Group) rs
    linked [] g = absurd (true≢false (sym g))
    linked (r ∷ rs) g = g

follows_holds : (b : Bracket) (ps : Parts) (q : Part) → may_follow b ps q ≡ true → holds b ≡ true
follows_holds Top ps q e = refl
follows_holds Opened ps q e = e
follows_holds (Inside (Any at)) ps q e = e
follows_holds (Inside (Text text)) ps q e = e
follows_holds (Inside (Node kind)) ps q e = refl
follows_holds (Inside Group) ps q e = refl
follows_holds (Inside Choice) ps q e = refl

no_wild : (k : Bool) (f : Frame) (l : Level) → wild_is_field f (if k then None else None) ≡ Some l → ⊥
no_wild true f l e = none-some l e
no_wild false f l e = none-some l e

-- the last `_` is a field's name
wild_colon : (b : Bracket) (ps : Parts) (os : List Shape) (l : Level) (z : Open) → Formed (shape b ps pending.Nothing) os →
    wild_is_field (frame_at b ps os) (bare_wild (content_of ps)) ≡ Some l → z ≡ (l, levels os) → Grows (shape b ps pending.Nothing) os sign.Colon z
wild_colon b empty os l z f e ez = absurd (none-some l e)
wild_colon b (more ps (item None (Any at) empty None [])) os l z f e ez =
    record {
      inner = shape b ps (pending.Field (wild at));
      round = os;
      same = ez ∙ ap (paired (levels os)) (same_Some _ _ (sym e ∙ wild_field_is b ps at os));
      spells = spelled_more (shape b (more ps (item None (Any at) empty None [])) pending.Nothing) (shape b ps (pending.Field (wild at))) os (sign.Colon ∷ [])
          (attach_begun (bracket_spelling b) (spelling ps) (sign.Name (wild at) ∷ []) (sign.Name (wild at) ∷ sign.Colon ∷ []) (sign.Colon ∷ []) refl
          ∙ ap (λ (t : List Sign). (bracket_spelling b ++ t) ++ sign.Colon ∷ []) (sym (append-nil (spelling ps ++ sign.Name (wild at) ∷ []))));
      formed = record { here = record { parts = f.here.parts.2; begun = follows_holds b ps (item None (Any at) empty None []) f.here.parts.1; link = f.here.link }; round = f.round };
      started = started_field b ps (wild at);
    }
wild_colon b (more ps (item None (Any at) (more qs q) None [])) os l z f e ez = absurd (true≢false (sym f.here.parts.0.2.1))
wild_colon b (more ps (item None (Text text) qs None [])) os l z f e ez = absurd (none-some l e)
wild_colon b (more ps (item None (Node kind) qs None [])) os l z f e ez = absurd (none-some l e)
wild_colon b (more ps (item None Group qs None [])) os l z f e ez = absurd (no_wild (is_loose qs) (frame_at b (more ps (item None Group qs None [])) os) l e)
wild_colon b (more ps (item None Choice qs None [])) os l z f e ez = absurd (none-some l e)
wild_colon b (more ps (item (Some v) h qs None [])) os l z f e ez = absurd (no_wild (takes_mark h qs) (frame_at b (more ps (item (Some v) h qs None [])) os) l e)
wild_colon b (more ps (item v h qs None (c ∷ cs))) os l z f e ez = absurd (none-some l e)
wild_colon b (more ps (item v h qs (Some k) cs)) os l z f e ez = absurd (none-some l e)
wild_colon b (more ps anchor) os l z f e ez = absurd (none-some l e)
wild_colon b (more ps (without w)) os l z f e ez = absurd (none-some l e)
wild_colon b (more ps (predicate w ops)) os l z f e ez = absurd (none-some l e)

colon_in_step : (b : Bracket) (ps : Parts) (os : List Shape) (l : Level) (z : Open) → Formed (shape b ps pending.Nothing) os →
    colon_in (frame_at b ps os) ≡ Some l → z ≡ (l, levels os) → Grows (shape b ps pending.Nothing) os sign.Colon z
colon_in_step b ps os l z f e ez = by (lone_kind (frame_at b ps os)) refl e
  where
    by : (o : Option Written) → lone_kind (frame_at b ps os) ≡ o → colon_behind (frame_at b ps os) o ≡ Some l → Grows (shape b ps pending.Nothing) os sign.Colon z
    by None k h = wild_colon b ps os l z f h ez
    by (Some kind) k h = kind_colon b ps os kind l z f (lone_name b ps os kind k) (same_Some _ _ h) ez

pub colon_step : (b : Bracket) (ps : Parts) (p : Pending) (os : List Shape) (z : Open) → Formed (shape b ps p) os →
    next (level_at (shape b ps p) os) (levels os) sign.Colon ≡ Some z → Grows (shape b ps p) os sign.Colon z
colon_step b ps pending.Nothing os z f e = let a = within_some (levels os) _ z e in colon_in_step b ps os a.0 z f a.1 a.2
colon_step b ps (pending.Name v) os z f e =
    begun_grown b ps (pending.Name v) (pending.Field v) os sign.Colon z refl f f.here.begun (started_field b ps v)
    (sym (same_Some _ _ e) ∙ ap (paired (levels os)) (field_is b ps v os))
colon_step b ps (pending.Field v) os z f e = absurd (none-some z e)
colon_step b ps (pending.Predicate v ops) os z f e = absurd (none-some z e)

pub without_step : (b : Bracket) (ps : Parts) (p : Pending) (os : List Shape) (w : Written) (z : Open) → Formed (shape b ps p) os →
    next (level_at (shape b ps p) os) (levels os) (sign.Without w) ≡ Some z → Grows (shape b ps p) os (sign.Without w) z
without_step Top ps pending.Nothing os w z f e = absurd (none-some z e)
without_step Opened ps pending.Nothing os w z f e = absurd (none-some z e)
without_step (Inside (Any at)) ps pending.Nothing os w z f e = absurd (none-some z e)
without_step (Inside (Text text)) ps pending.Nothing os w z f e = absurd (none-some z e)
without_step (Inside (Node kind)) ps pending.Nothing os w z f e =
    part_grown (Inside (Node kind)) ps pending.Nothing os (without w) (sign.Without w) z refl f refl tt
    (sym (same_Some _ _ e) ∙ ap (λ (c : Content). paired (levels os) (ready (frame_of (Inside (Node kind)) (groups_at os) (asks_at os) c))) (content_without ps w))
without_step (Inside Group) ps pending.Nothing os w z f e = absurd (none-some z e)
without_step (Inside Choice) ps pending.Nothing os w z f e = absurd (none-some z e)
without_step b ps (pending.Name v) os w z f e = absurd (none-some z e)
without_step b ps (pending.Field v) os w z f e = absurd (none-some z e)
without_step b ps (pending.Predicate v ops) os w z f e = absurd (none-some z e)
