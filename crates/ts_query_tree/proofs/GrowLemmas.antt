-- A bracket that opens or closes, a predicate, and so any sign that can stand behind what is open,
-- leads to brackets that are open and formed, and that are spelled by that sign more.
use Rattle.std.proofs.Common.{◌≡◌, true, not, ◌&&◌, List, [], ◌∷◌, ◌++◌, Option, Some, None, refl, sym, ap, subst, ◌∙◌, append-nil, true≢false}
use Rattle.std.proofs.lemmas.List.{append_assoc}
use Rattle.std.proofs.lemmas.Option.{none-some, same_Some}
use Rattle.ts_query_tree.specs.declared.tree.Written.{Written}
use Rattle.ts_query_tree.specs.declared.tree.Head.{Head}
use Rattle.ts_query_tree.specs.declared.tree.Head.TheVariants.{Any, Text, Node, Group, Choice}
use Rattle.ts_query_tree.specs.declared.tree.Operand.{Operand}
use Rattle.ts_query_tree.specs.declared.level.Bracket.{Bracket}
use Rattle.ts_query_tree.specs.declared.level.Bracket.TheVariants.{Top, Opened, Inside}
use Rattle.ts_query_tree.specs.declared.level.Pending.{Pending}
use Rattle.ts_query_tree.specs.declared.level.Pending.TheVariants as pending
use Rattle.ts_query_tree.specs.declared.level.Content.{Content}
use Rattle.ts_query_tree.specs.declared.level.Frame.{Frame}
use Rattle.ts_query_tree.specs.declared.sign.Sign.{Sign}
use Rattle.ts_query_tree.specs.declared.sign.Sign.TheVariants as sign
use Rattle.ts_query_tree.specs.Trees.{Parts, empty, more, item, predicate, spelling, head_spelling, has_item, is_loose, may_follow, begins_group, is_fitting, is_filled}
use Rattle.ts_query_tree.specs.Machine.{Open, frame_of, ready, flushed, is_opened, predicates_in, is_due, takes_unit, asking_in, opened_in, opened, put, closed_in, next}
use Rattle.ts_query_tree.proofs.Shapes.{Shape, shape, before_of, last_of, takes_mark, content_of, groups_at, asks_at, frame_in, level_at, levels, shape_spelling, spelled, bracket_spelling, holds, Linked, Formed, IsStarted, Grows}
use Rattle.ts_query_tree.proofs.ShapeLemmas.{attach_begun, flushed_all, content_predicate, field_in, with_unit, unit_added, spelled_more, unit_follows, group_follows}
use Rattle.ts_query_tree.proofs.SignLemmas.{taken, both, within_some, negated, opened_empty, holds_formed, unit_grown, part_grown, started_asking, shifted, begun_opened, enters, fits, text_step, paired, name_step, mark_step, capture_step, anchor_step, colon_step, without_step}

-- ---- brackets

-- a bracket of this kind opens
abbrev Opens : Bracket → Sign → Type 0
Opens b s = (shape_spelling (shape b empty pending.Nothing) ≡ s ∷ []) × ((r : Shape) (os : List Shape) → Linked b (r ∷ os)) × IsStarted (shape b empty pending.Nothing)

open_in : (c : Bracket) (s : Sign) (b : Bracket) (ps : Parts) (p : Pending) (os : List Shape) (z : Open) → Opens c s → Formed (shape b ps p) os →
    opened_in (frame_in b ps p os) p c (levels os) ≡ Some z → Grows (shape b ps p) os s z
open_in c s b ps p os z o f e =
    let t = taken (takes_unit b p) _ z e in
    let d = both (is_due p) (not (is_opened b)) t.0 in record {
      inner = shape c empty pending.Nothing;
      round = shape b ps p ∷ os;
      same = sym (same_Some _ _ t.1);
      spells = ap (λ (u : List Sign). spelled (shape b ps p) os ++ u) o.0;
      formed = record {
        here = record { parts = tt; begun = tt; link = o.1 (shape b ps p) os };
        round = ((holds_formed b ps p os f.here (negated _ d.1), d.0), f.here, f.round);
      };
      started = o.2;
    }

open_step : (c : Bracket) (s : Sign) (b : Bracket) (ps : Parts) (p : Pending) (os : List Shape) (z : Open) → Opens c s → Formed (shape b ps p) os →
    opened (level_at (shape b ps p) os) c (levels os) ≡ Some z → Grows (shape b ps p) os s z
open_step c s b ps p os z o f e =
    let i = enters b ps p os f.here in
    shifted (shape i.bracket ps p) (shape b ps p) os s z i.spells
    (open_in c s i.bracket ps p os z o (record { here = i.here; round = f.round }) (subst (λ (x : Frame). opened_in x p c (levels os) ≡ Some z) i.frame e))

-- a bracket closes, and what was in it is an item of the one round it
put_grown : (h : Head) (s : Sign) (ps : Parts) (b : Bracket) (rs : Parts) (q : Pending) (os : List Shape) (z : Open) → Formed (shape (Inside h) ps pending.Nothing) (shape b rs q ∷ os) →
    put h (content_of ps) (takes_mark h ps) (levels (shape b rs q ∷ os)) ≡ Some z → may_follow b rs (item (field_in q) h ps None []) ≡ true → is_filled h ps ≡ true →
    is_fitting (field_in q) h ps None [] ≡ true → head_spelling h (spelling ps) ≡ shape_spelling (shape (Inside h) ps pending.Nothing) ++ s ∷ [] →
    Grows (shape (Inside h) ps pending.Nothing) (shape b rs q ∷ os) s z
put_grown h s ps b rs q os z f e follows filled fitting signs =
    let a = within_some (levels os) _ z e in
    let due = f.round.0 in
    let is : a.0 ≡ level_at (with_unit b rs q h ps) os = same_Some _ _ (sym a.1 ∙ unit_added b rs q os h ps (flushed (before_of ps) (last_of ps)) (takes_mark h ps) due.0 due.1 (flushed_all ps) refl) in
    unit_grown b rs q os h ps (shape (Inside h) ps pending.Nothing) (shape b rs q ∷ os) s z due.1 (record { here = f.round.1; round = f.round.2 }) follows (filled, fitting, f.here.parts)
    (ap (λ (u : List Sign). spelled (shape b rs q) os ++ u) signs ∙ sym (append_assoc (spelled (shape b rs q) os) (shape_spelling (shape (Inside h) ps pending.Nothing)) (s ∷ [])))
    (a.2 ∙ ap (paired (levels os)) is)

pub begins_node : (f : Option Written) (kind : Written) (qs : Parts) → begins_group (item f (Node kind) qs None []) ≡ true
begins_node None kind qs = refl
begins_node (Some v) kind qs = refl

pub begins_choice : (f : Option Written) (qs : Parts) → begins_group (item f Choice qs None []) ≡ true
begins_choice None qs = refl
begins_choice (Some v) qs = refl

pub ends : (ts : List Sign) (s : Sign) → ts ++ s ∷ [] ≡ (ts ++ []) ++ s ∷ []
ends ts s = ap (λ (u : List Sign). u ++ s ∷ []) (sym (append-nil ts))

close_node : (kind : Written) (ps : Parts) (os : List Shape) (z : Open) → Formed (shape (Inside (Node kind)) ps pending.Nothing) os →
    put (Node kind) (content_of ps) true (levels os) ≡ Some z → Grows (shape (Inside (Node kind)) ps pending.Nothing) os sign.Close z
close_node kind ps [] z f e = absurd (none-some z e)
close_node kind ps (shape b rs q ∷ os) z f e =
    put_grown (Node kind) sign.Close ps b rs q os z f e (unit_follows b rs (field_in q) (Node kind) ps f.round.0.0 refl (begins_node (field_in q) kind ps)) refl
    (fits b rs q (Node kind) ps f.round.1.begun f.round.0.1 refl) (ap (λ (u : List Sign). sign.Open ∷ sign.Name kind ∷ u) (ends (spelling ps) sign.Close))

close_choice : (ps : Parts) (os : List Shape) (z : Open) → Formed (shape (Inside Choice) ps pending.Nothing) os → has_item ps ≡ true →
    put Choice (content_of ps) true (levels os) ≡ Some z → Grows (shape (Inside Choice) ps pending.Nothing) os sign.CloseChoice z
close_choice ps [] z f filled e = absurd (none-some z e)
close_choice ps (shape b rs q ∷ os) z f filled e =
    put_grown Choice sign.CloseChoice ps b rs q os z f e (unit_follows b rs (field_in q) Choice ps f.round.0.0 refl (begins_choice (field_in q) ps)) filled
    (fits b rs q Choice ps f.round.1.begun f.round.0.1 refl) (ap (λ (u : List Sign). sign.OpenChoice ∷ u) (ends (spelling ps) sign.CloseChoice))

close_group : (ps : Parts) (os : List Shape) (z : Open) → Formed (shape (Inside Group) ps pending.Nothing) os → has_item ps ≡ true →
    put Group (content_of ps) (is_loose ps) (levels os) ≡ Some z → Grows (shape (Inside Group) ps pending.Nothing) os sign.Close z
close_group ps [] z f filled e = absurd (none-some z e)
close_group ps (shape b rs pending.Nothing ∷ os) z f filled e =
    put_grown Group sign.Close ps b rs pending.Nothing os z f e (group_follows b rs ps f.round.0.0 f.here.link) filled refl (ap (λ (u : List Sign). sign.Open ∷ u) (ends (spelling ps) sign.Close))
close_group ps (shape b rs (pending.Name v) ∷ os) z f filled e = absurd (true≢false (sym f.here.link))
close_group ps (shape b rs (pending.Field v) ∷ os) z f filled e = absurd (true≢false (sym f.here.link))
close_group ps (shape b rs (pending.Predicate v ops) ∷ os) z f filled e = absurd (true≢false (sym f.here.link))

close_in : (b : Bracket) (ps : Parts) (os : List Shape) (z : Open) → Formed (shape b ps pending.Nothing) os →
    closed_in (content_of ps) (levels os) b ≡ Some z → Grows (shape b ps pending.Nothing) os sign.Close z
close_in Top ps os z f e = absurd (none-some z e)
close_in Opened ps os z f e = absurd (none-some z e)
close_in (Inside (Any at)) ps os z f e = absurd (none-some z e)
close_in (Inside (Text text)) ps os z f e = absurd (none-some z e)
close_in (Inside (Node kind)) ps os z f e = close_node kind ps os z f e
close_in (Inside Group) ps os z f e = let t = taken (has_item ps) _ z e in close_group ps os z f t.0 t.1
close_in (Inside Choice) ps os z f e = absurd (none-some z e)

pub asked_follows : (c : Bracket) (qs : Parts) (w : Written) (xs : List Operand) → may_follow c qs (predicate w []) ≡ true → may_follow c qs (predicate w xs) ≡ true
asked_follows Top qs w xs h = h
asked_follows Opened qs w xs h = h
asked_follows (Inside (Any at)) qs w xs h = h
asked_follows (Inside (Text text)) qs w xs h = h
asked_follows (Inside (Node kind)) qs w xs h = refl
asked_follows (Inside Group) empty w xs h = h
asked_follows (Inside Group) (more qs q) w xs h = refl
asked_follows (Inside Choice) qs w xs h = h

close_step : (b : Bracket) (ps : Parts) (p : Pending) (os : List Shape) (z : Open) → Formed (shape b ps p) os →
    next (level_at (shape b ps p) os) (levels os) sign.Close ≡ Some z → Grows (shape b ps p) os sign.Close z
close_step b ps pending.Nothing os z f e = close_in b ps os z f e
close_step b ps (pending.Name v) os z f e = absurd (none-some z e)
close_step b ps (pending.Field v) os z f e = absurd (none-some z e)
close_step b ps (pending.Predicate v ops) os z f e =
    part_grown b ps (pending.Predicate v ops) os (predicate v ops) sign.Close z refl f (asked_follows b ps v ops f.here.begun.1) tt
    (sym (same_Some _ _ e) ∙ ap (λ (c : Content). paired (levels os) (ready (frame_of b (groups_at os) (asks_at os) c))) (content_predicate ps v ops))

choice_step : (b : Bracket) (ps : Parts) (p : Pending) (os : List Shape) (z : Open) → Formed (shape b ps p) os →
    next (level_at (shape b ps p) os) (levels os) sign.CloseChoice ≡ Some z → Grows (shape b ps p) os sign.CloseChoice z
choice_step Top ps pending.Nothing os z f e = absurd (none-some z e)
choice_step Opened ps pending.Nothing os z f e = absurd (none-some z e)
choice_step (Inside (Any at)) ps pending.Nothing os z f e = absurd (none-some z e)
choice_step (Inside (Text text)) ps pending.Nothing os z f e = absurd (none-some z e)
choice_step (Inside (Node kind)) ps pending.Nothing os z f e = absurd (none-some z e)
choice_step (Inside Group) ps pending.Nothing os z f e = absurd (none-some z e)
choice_step (Inside Choice) ps pending.Nothing os z f e = let t = taken (has_item ps) _ z e in close_choice ps os z f t.0 t.1
choice_step b ps (pending.Name v) os z f e = absurd (none-some z e)
choice_step b ps (pending.Field v) os z f e = absurd (none-some z e)
choice_step b ps (pending.Predicate v ops) os z f e = absurd (none-some z e)

-- ---- predicates

ask_follows : (b : Bracket) (ps : Parts) (w : Written) → predicates_in (content_of ps) b ≡ true → (holds b ≡ true) × (may_follow b ps (predicate w []) ≡ true)
ask_follows Top ps w e = absurd (true≢false (sym e))
ask_follows Opened ps w e = absurd (true≢false (sym e))
ask_follows (Inside (Any at)) ps w e = absurd (true≢false (sym e))
ask_follows (Inside (Text text)) ps w e = absurd (true≢false (sym e))
ask_follows (Inside (Node kind)) ps w e = (refl, refl)
ask_follows (Inside Group) empty w e = absurd (true≢false (sym e))
ask_follows (Inside Group) (more ps q) w e = (refl, refl)
ask_follows (Inside Choice) ps w e = absurd (true≢false (sym e))

ask_in : (w : Written) (r : Shape) (os : List Shape) (z : Open) → Formed (shape Opened empty pending.Nothing) (r ∷ os) → asks_at (r ∷ os) ≡ true →
    asking_in w (levels (r ∷ os)) ≡ Some z → Grows (shape Opened empty pending.Nothing) (r ∷ os) (sign.Predicate w) z
ask_in w (shape b ps pending.Nothing) os z f a e =
    let follows = ask_follows b ps w a in record {
      inner = shape b ps (pending.Predicate w []);
      round = os;
      same = sym (same_Some _ _ e);
      spells = spelled_more (shape b ps pending.Nothing) (shape b ps (pending.Predicate w [])) os (sign.Open ∷ sign.Predicate w ∷ [])
          (attach_begun (bracket_spelling b) (spelling ps) [] (sign.Open ∷ sign.Predicate w ∷ []) (sign.Open ∷ sign.Predicate w ∷ []) refl)
          ∙ sym (append_assoc (spelled (shape b ps pending.Nothing) os) (sign.Open ∷ []) (sign.Predicate w ∷ []));
      formed = record { here = record { parts = f.round.1.parts; begun = follows; link = f.round.1.link }; round = f.round.2 };
      started = started_asking b ps w [];
    }
ask_in w (shape b ps (pending.Name v)) os z f a e = absurd (true≢false (sym a))
ask_in w (shape b ps (pending.Field v)) os z f a e = absurd (true≢false (sym a))
ask_in w (shape b ps (pending.Predicate v ops)) os z f a e = absurd (true≢false (sym a))

ask_opened : (ps : Parts) (p : Pending) (os : List Shape) (w : Written) (z : Open) → Formed (shape Opened ps p) os → asks_at os ≡ true → asking_in w (levels os) ≡ Some z → Grows (shape Opened ps p) os (sign.Predicate w) z
ask_opened ps p [] w z f a e = absurd (none-some z e)
ask_opened ps p (r ∷ os) w z f a e =
    subst (λ (qs : Parts). Grows (shape Opened qs p) (r ∷ os) (sign.Predicate w) z) (sym (opened_empty ps f.here.parts))
    (subst (λ (q : Pending). Grows (shape Opened empty q) (r ∷ os) (sign.Predicate w) z) (sym (begun_opened ps p f.here.begun))
    (ask_in w r os z (record { here = record { parts = tt; begun = tt; link = tt }; round = f.round }) a e))

ask_step : (b : Bracket) (ps : Parts) (p : Pending) (os : List Shape) (w : Written) (z : Open) → Formed (shape b ps p) os →
    next (level_at (shape b ps p) os) (levels os) (sign.Predicate w) ≡ Some z → Grows (shape b ps p) os (sign.Predicate w) z
ask_step b ps p os w z f e =
    let t = taken (asks_at os && is_opened b) _ z e in
    let d = both (asks_at os) (is_opened b) t.0 in
    by b d.1 f d.0 t.1
  where
    by : (c : Bracket) → is_opened c ≡ true → Formed (shape c ps p) os → asks_at os ≡ true → asking_in w (levels os) ≡ Some z → Grows (shape c ps p) os (sign.Predicate w) z
    by Top n g a k = absurd (true≢false (sym n))
    by Opened n g a k = ask_opened ps p os w z g a k
    by (Inside h) n g a k = absurd (true≢false (sym n))

-- ---- any sign

pub grows : (x : Shape) (os : List Shape) (s : Sign) (z : Open) → Formed x os → IsStarted x → next (level_at x os) (levels os) s ≡ Some z → Grows x os s z
grows (shape b ps p) os sign.Open z f i e = open_step Opened sign.Open b ps p os z (refl, λ r o. tt, tt) f e
grows (shape b ps p) os sign.Close z f i e = close_step b ps p os z f e
grows (shape b ps p) os sign.OpenChoice z f i e = open_step (Inside Choice) sign.OpenChoice b ps p os z (refl, λ r o. tt, tt) f e
grows (shape b ps p) os sign.CloseChoice z f i e = choice_step b ps p os z f e
grows (shape b ps p) os sign.Anchor z f i e = anchor_step b ps p os z f e
grows (shape b ps p) os sign.Colon z f i e = colon_step b ps p os z f e
grows (shape b ps p) os (sign.Mark m) z f i e = mark_step b ps p os m z f e
grows (shape b ps p) os (sign.Name w) z f i e = name_step b ps p os w z f i e
grows (shape b ps p) os (sign.Text w) z f i e = text_step b ps p os w z f e
grows (shape b ps p) os (sign.Capture w) z f i e = capture_step b ps p os w z f e
grows (shape b ps p) os (sign.Without w) z f i e = without_step b ps p os w z f e
grows (shape b ps p) os (sign.Predicate w) z f i e = ask_step b ps p os w z f e
