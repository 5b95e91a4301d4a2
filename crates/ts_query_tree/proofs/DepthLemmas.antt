-- How many brackets are open behind some signs.
use Rattle.std.proofs.Common.{◌≡◌, ℕ, ◌+◌, ◌-◌, ◌≤◌, Bool, true, false, not, ◌&&◌, List, [], ◌∷◌, ◌++◌, map, length, Option, Some, None, refl, sym, ap, subst, ◌∙◌, true≢false, arith, if◌then◌else◌}
use Rattle.std.proofs.lemmas.Option.{none-some}
use Rattle.ts_query_tree.specs.declared.tree.Written.{Written}
use Rattle.ts_query_tree.specs.declared.tree.Mark.{Mark}
use Rattle.ts_query_tree.specs.declared.tree.Head.{Head}
use Rattle.ts_query_tree.specs.declared.tree.Head.TheVariants.{Any, Text, Node, Group, Choice}
use Rattle.ts_query_tree.specs.declared.tree.Operand.{Operand}
use Rattle.ts_query_tree.specs.declared.tree.Operand.TheVariants as operand
use Rattle.ts_query_tree.specs.declared.level.Bracket.{Bracket}
use Rattle.ts_query_tree.specs.declared.level.Bracket.TheVariants.{Top, Opened, Inside}
use Rattle.ts_query_tree.specs.declared.level.Pending.{Pending}
use Rattle.ts_query_tree.specs.declared.level.Pending.TheVariants as pending
use Rattle.ts_query_tree.specs.declared.level.Level.{Level}
use Rattle.ts_query_tree.specs.declared.sign.Sign.{Sign}
use Rattle.ts_query_tree.specs.declared.sign.Sign.TheVariants as sign
use Rattle.ts_query_tree.specs.Trees.{Parts, empty, more, Part, item, anchor, without, predicate, spelling, part_spelling, head_spelling, field_spelling, mark_spelling, operand_sign}
use Rattle.ts_query_tree.specs.Reads.{nested, most_open, StayShallow}
use Rattle.ts_query_tree.specs.Machine.{Open, is_due, is_opened, is_opening, takes_unit, entered, next, run_from, start}
use Rattle.ts_query_tree.proofs.Shapes.{Shape, shape, levels, level_at, shape_spelling, spelled, bracket_spelling, pending_spelling, Formed, Linked}
use Rattle.ts_query_tree.proofs.CloseLemmas.{reaches}

abbrev pub nests : ℕ → List Sign → ℕ
nests n [] = n
nests n (s ∷ ss) = nests (nested n s) ss

nests_append : (n : ℕ) (xs ys : List Sign) → nests n (xs ++ ys) ≡ nests (nests n xs) ys
nests_append n [] ys = refl
nests_append n (x ∷ xs) ys = nests_append (nested n x) xs ys

-- signs behind which as many are open as before
abbrev IsLevel : List Sign → Type 0
IsLevel ss = (n : ℕ) → nests n ss ≡ n

joined : (xs ys : List Sign) → IsLevel xs → IsLevel ys → IsLevel (xs ++ ys)
joined xs ys a b n = nests_append n xs ys ∙ ap (λ (k : ℕ). nests k ys) (a n) ∙ b n

captures_level : (cs : List Written) → IsLevel (map sign.Capture cs)
captures_level [] n = refl
captures_level (c ∷ cs) n = captures_level cs n

operands_level : (os : List Operand) → IsLevel (map operand_sign os)
operands_level [] n = refl
operands_level (operand.Capture w ∷ os) n = operands_level os n
operands_level (operand.Text w ∷ os) n = operands_level os n
operands_level (operand.Name w ∷ os) n = operands_level os n

field_level : (f : Option Written) → IsLevel (field_spelling f)
field_level None n = refl
field_level (Some w) n = refl

mark_level : (m : Option Mark) → IsLevel (mark_spelling m)
mark_level None n = refl
mark_level (Some m) n = refl

back : (n : ℕ) → (n + 1) - 1 ≡ n
back n = omega arith

bracketed : (inner : List Sign) → IsLevel inner → (n : ℕ) → nests (n + 1) (inner ++ sign.Close ∷ []) ≡ n
bracketed inner h n = nests_append (n + 1) inner (sign.Close ∷ []) ∙ ap (λ (k : ℕ). k - 1) (h (n + 1)) ∙ back n

head_level : (h : Head) (inner : List Sign) → IsLevel inner → IsLevel (head_spelling h inner)
head_level (Any at) inner h n = h n
head_level (Text w) inner h n = h n
head_level (Node kind) inner h n = bracketed inner h n
head_level Group inner h n = bracketed inner h n
head_level Choice inner h n = nests_append (n + 1) inner (sign.CloseChoice ∷ []) ∙ ap (λ (k : ℕ). k - 1) (h (n + 1)) ∙ back n

mutual
  parts_level : (ps : Parts) → IsLevel (spelling ps)
  parts_level empty n = refl
  parts_level (more ps p) n = joined (spelling ps) (part_spelling p) (parts_level ps) (part_level p) n

  part_level : (p : Part) → IsLevel (part_spelling p)
  part_level (item f h qs m cs) n =
      joined (field_spelling f) (head_spelling h (spelling qs) ++ (mark_spelling m ++ map sign.Capture cs)) (field_level f)
      (joined (head_spelling h (spelling qs)) (mark_spelling m ++ map sign.Capture cs) (head_level h (spelling qs) (parts_level qs))
      (joined (mark_spelling m) (map sign.Capture cs) (mark_level m) (captures_level cs))) n
  part_level anchor n = refl
  part_level (without w) n = refl
  part_level (predicate w os) n = bracketed (map operand_sign os) (operands_level os) n

-- ---- what is open

abbrev bracket_count : Bracket → ℕ
bracket_count Top = 0
bracket_count Opened = 1
bracket_count (Inside (Any at)) = 0
bracket_count (Inside (Text text)) = 0
bracket_count (Inside (Node kind)) = 1
bracket_count (Inside Group) = 1
bracket_count (Inside Choice) = 1

bracket_nests : (b : Bracket) (n : ℕ) → nests n (bracket_spelling b) ≡ n + bracket_count b
bracket_nests Top n = omega arith
bracket_nests Opened n = refl
bracket_nests (Inside (Any at)) n = omega arith
bracket_nests (Inside (Text text)) n = omega arith
bracket_nests (Inside (Node kind)) n = refl
bracket_nests (Inside Group) n = refl
bracket_nests (Inside Choice) n = refl

due_level : (p : Pending) → is_due p ≡ true → IsLevel (pending_spelling p)
due_level pending.Nothing d n = refl
due_level (pending.Name w) d n = refl
due_level (pending.Field w) d n = refl
due_level (pending.Predicate w os) d n = absurd (true≢false (sym d))

shape_nests : (b : Bracket) (ps : Parts) (p : Pending) (n : ℕ) → is_due p ≡ true → nests n (shape_spelling (shape b ps p)) ≡ n + bracket_count b
shape_nests b ps p n d =
    nests_append n (bracket_spelling b) (spelling ps ++ pending_spelling p)
    ∙ joined (spelling ps) (pending_spelling p) (parts_level ps) (due_level p d) (nests n (bracket_spelling b))
    ∙ bracket_nests b n

linked_count : (b : Bracket) (r : Shape) (os : List Shape) → Linked b (r ∷ os) → bracket_count b ≡ 1
linked_count Top r os l = absurd l
linked_count Opened r os l = refl
linked_count (Inside (Any at)) r os l = absurd l
linked_count (Inside (Text text)) r os l = absurd l
linked_count (Inside (Node kind)) r os l = refl
linked_count (Inside Group) r os l = refl
linked_count (Inside Choice) r os l = refl

top_count : (b : Bracket) → Linked b [] → bracket_count b ≡ 0
top_count Top l = refl
top_count Opened l = absurd l
top_count (Inside h) l = absurd l

open_count : (os : List Shape) (b : Bracket) (ps : Parts) (p : Pending) → Formed (shape b ps p) os → is_due p ≡ true → nests 0 (spelled (shape b ps p) os) ≡ length os
open_count [] b ps p f d = shape_nests b ps p 0 d ∙ ap (λ (k : ℕ). 0 + k) (top_count b f.here.link)
open_count (shape c rs q ∷ os) b ps p f d =
    nests_append 0 (spelled (shape c rs q) os) (shape_spelling (shape b ps p))
    ∙ shape_nests b ps p (nests 0 (spelled (shape c rs q) os)) d
    ∙ ap (λ (k : ℕ). nests 0 (spelled (shape c rs q) os) + k) (linked_count b (shape c rs q) os f.here.link)
    ∙ ap (λ (k : ℕ). k + 1) (open_count os c rs q (record { here = f.round.1; round = f.round.2 }) f.round.0.1)
    ∙ omega arith

levels_length : (os : List Shape) → length (levels os) ≡ length os
levels_length [] = refl
levels_length (r ∷ os) = let e = levels_length os in omega (arith, e)

due_inner : (x : Shape) (os : List Shape) → Formed x os → is_due (level_at x os).pending ≡ true → nests 0 (spelled x os) ≡ length os
due_inner (shape b ps p) os f d = open_count os b ps p f d

-- as many brackets are open as there are levels round the inmost
pub nests_levels : (ss : List Sign) (z : Open) → run_from start ss ≡ Some z → is_due z.0.pending ≡ true → nests 0 ss ≡ length z.1
nests_levels ss z e d =
    let r = reaches ss z e in
    let due : is_due (level_at r.inner r.round).pending ≡ true = subst (λ (y : Open). is_due y.0.pending ≡ true) r.same d in
    ap (nests 0) (sym r.spells) ∙ due_inner r.inner r.round r.formed due ∙ sym (levels_length r.round) ∙ ap (λ (y : Open). length y.1) (sym r.same)

-- ---- a bracket more

both_first : (a b : Bool) → (a && b) ≡ true → a ≡ true
both_first true b e = refl
both_first false b e = absurd (true≢false (sym e))

taken_first : {A : Type 0} (b : Bool) (o : Option A) (z : A) → (if b then o else None) ≡ Some z → b ≡ true
taken_first true o z e = refl
taken_first false o z e = absurd (none-some z e)

pub opens_due : (l : Level) (o : List Level) (s : Sign) (z : Open) → is_opening s ≡ true → next l o s ≡ Some z → (is_due l.pending ≡ true) × ((n : ℕ) → nested n s ≡ n + 1)
opens_due l o sign.Open z i e = (both_first (is_due l.pending) (not (is_opened (entered l.frame).bracket)) (taken_first (takes_unit (entered l.frame).bracket l.pending) _ z e), λ n. refl)
opens_due l o sign.Close z i e = absurd (true≢false (sym i))
opens_due l o sign.OpenChoice z i e = (both_first (is_due l.pending) (not (is_opened (entered l.frame).bracket)) (taken_first (takes_unit (entered l.frame).bracket l.pending) _ z e), λ n. refl)
opens_due l o sign.CloseChoice z i e = absurd (true≢false (sym i))
opens_due l o sign.Anchor z i e = absurd (true≢false (sym i))
opens_due l o sign.Colon z i e = absurd (true≢false (sym i))
opens_due l o (sign.Mark m) z i e = absurd (true≢false (sym i))
opens_due l o (sign.Name w) z i e = absurd (true≢false (sym i))
opens_due l o (sign.Text w) z i e = absurd (true≢false (sym i))
opens_due l o (sign.Capture w) z i e = absurd (true≢false (sym i))
opens_due l o (sign.Without w) z i e = absurd (true≢false (sym i))
opens_due l o (sign.Predicate w) z i e = absurd (true≢false (sym i))

pub others_stay : (s : Sign) (n : ℕ) → is_opening s ≡ false → nested n s ≤ n
others_stay sign.Open n i = absurd (true≢false i)
others_stay sign.Close n i = omega arith
others_stay sign.OpenChoice n i = absurd (true≢false i)
others_stay sign.CloseChoice n i = omega arith
others_stay sign.Anchor n i = omega arith
others_stay sign.Colon n i = omega arith
others_stay (sign.Mark m) n i = omega arith
others_stay (sign.Name w) n i = omega arith
others_stay (sign.Text w) n i = omega arith
others_stay (sign.Capture w) n i = omega arith
others_stay (sign.Without w) n i = omega arith
others_stay (sign.Predicate w) n i = omega arith

pub shallow_last : (n : ℕ) (ss : List Sign) → StayShallow n ss → nests n ss ≤ most_open
shallow_last n [] h = h
shallow_last n (s ∷ ss) h = shallow_last (nested n s) ss h.1

pub shallow_push : (n : ℕ) (ss : List Sign) (s : Sign) → StayShallow n ss → nested (nests n ss) s ≤ most_open → StayShallow n (ss ++ s ∷ [])
shallow_push n [] s h le = (h, le)
shallow_push n (t ∷ ss) s h le = (h.0, shallow_push (nested n t) ss s h.1 le)

pub shallow_front : (n : ℕ) (ss ts : List Sign) → StayShallow n (ss ++ ts) → StayShallow n ss
shallow_front n [] [] h = h
shallow_front n [] (t ∷ ts) h = h.0
shallow_front n (s ∷ ss) ts h = (h.0, shallow_front (nested n s) ss ts h.1)

pub shallow_end : (n : ℕ) (ss : List Sign) (s : Sign) → StayShallow n (ss ++ s ∷ []) → nested (nests n ss) s ≤ most_open
shallow_end n [] s h = h.1
shallow_end n (t ∷ ss) s h = shallow_end (nested n t) ss s h.1
