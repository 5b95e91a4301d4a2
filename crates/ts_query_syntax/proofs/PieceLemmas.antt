-- What parts give to a list of siblings, part for part.
use Rattle.std.proofs.Common.{◌≡◌, ◌∙◌, sym, ap, refl, ℕ, ◌+◌, ◌<◌, Bool, true, false, List, [], ◌∷◌, map, ◌++◌, length, get_or, take, append_assoc}
use Rattle.std.specs.Prelude.{Option, if◌then◌else◌}
use Rattle.std.proofs.lemmas.List.{take_more, append-nil}
use Rattle.std.proofs.lemmas.List.Concat.{flat_map-append}
use Rattle.ts_query_tree.specs.declared.tree.Written.{Written}
use Rattle.ts_query_tree.specs.declared.tree.Mark.{Mark}
use Rattle.ts_query_tree.specs.declared.tree.Head.{Head}
use Rattle.ts_query_tree.specs.declared.tree.Operand.{Operand}
use Rattle.ts_query_tree.specs.declared.tree.Part.{Part}
use Rattle.ts_query_tree.specs.declared.tree.Part.TheOpen.{Part-F}
use Rattle.ts_query_tree.specs.declared.tree.Part.TheVariants as part
use Rattle.ts_query_tree.specs.declared.tree.Part.TheVariants.{rolls-Item, rolls-Anchor, rolls-Without, rolls-Predicate}
use Rattle.ts_query_tree.specs.declared.tree.Part.TheFolds.{fold-roll-Part}
use Rattle.ts_query_names.specs.Numbers.{Names, field_number}
use Rattle.ts_query_syntax.specs.declared.read_query.Item.{Item}
use Rattle.ts_query_syntax.specs.declared.level.Level.{Level}
use Rattle.ts_query_syntax.specs.Items.{Piece, anchor, one, lacks, joined_pieces, piece_step, pieces, pieces_in, is_spliced, item_over, items_from, ends_tied, lacking}
use Rattle.ts_query_syntax.specs.Levels.{empty_level, tied_level, level_with, level_lacking, after, item_of}

joined_map : (n : Names) (ps : List Part) → joined_pieces (map (pieces n) ps) ≡ pieces_in n ps
joined_map n [] = refl
joined_map n (p ∷ ps) = ap (λ (rest : List Piece). pieces n p ++ rest) (joined_map n ps)

of_item : (n : Names) (f : Option Written) (h : Head) (ps : List Part) (m : Option Mark) (cs : List Written)
    → pieces n (part.Item f h ps m cs)
    ≡ (if is_spliced h m then pieces_in n ps else one (item_over n f h (pieces_in n ps) m cs) ∷ [])
of_item n f h ps m cs =
    ap {B = List Piece} (pieces n) (sym (rolls-Item f h ps m cs)) ∙ fold-roll-Part (List Piece) (piece_step n) (Part-F.Item f h ps m cs)
    ∙ ap (λ (inner : List Piece). if is_spliced h m then inner else one (item_over n f h inner m cs) ∷ []) (joined_map n ps)

pub of_anchor : (n : Names) → pieces n part.Anchor ≡ anchor ∷ []
of_anchor n = ap {B = List Piece} (pieces n) (sym rolls-Anchor) ∙ fold-roll-Part (List Piece) (piece_step n) Part-F.Anchor

pub of_without : (n : Names) (name : Written) → pieces n (part.Without name) ≡ lacks (field_number n name.text) ∷ []
of_without n name = ap {B = List Piece} (pieces n) (sym (rolls-Without name)) ∙ fold-roll-Part (List Piece) (piece_step n) (Part-F.Without name)

pub of_predicate : (n : Names) (name : Written) (os : List Operand) → pieces n (part.Predicate name os) ≡ []
of_predicate n name os = ap {B = List Piece} (pieces n) (sym (rolls-Predicate name os)) ∙ fold-roll-Part (List Piece) (piece_step n) (Part-F.Predicate name os)

pub of_spliced : (n : Names) (f : Option Written) (h : Head) (ps : List Part) (m : Option Mark) (cs : List Written) → is_spliced h m ≡ true
    → pieces n (part.Item f h ps m cs) ≡ pieces_in n ps
of_spliced n f h ps m cs is = of_item n f h ps m cs ∙ ap (λ (b : Bool). if b then pieces_in n ps else one (item_over n f h (pieces_in n ps) m cs) ∷ []) is

pub of_one : (n : Names) (f : Option Written) (h : Head) (ps : List Part) (m : Option Mark) (cs : List Written) → is_spliced h m ≡ false
    → pieces n (part.Item f h ps m cs) ≡ one (item_over n f h (pieces_in n ps) m cs) ∷ []
of_one n f h ps m cs is = of_item n f h ps m cs ∙ ap (λ (b : Bool). if b then pieces_in n ps else one (item_over n f h (pieces_in n ps) m cs) ∷ []) is

-- ---- what stands there after pieces

after_append : (l : Level) (xs ys : List Piece) → after l (xs ++ ys) ≡ after (after l xs) ys
after_append l [] ys = refl
after_append l (anchor ∷ xs) ys = after_append (tied_level l) xs ys
after_append l (one item ∷ xs) ys = after_append (level_with l (item l.tied)) xs ys
after_append l (lacks field ∷ xs) ys = after_append (level_lacking l field) xs ys

abbrev level_of : List Item → Bool → List ℕ → Level
level_of items tied without = record { items = items; tied = tied; without = without }

-- in parts
pub after_is : (l : Level) (xs : List Piece) → after l xs ≡ level_of (l.items ++ items_from l.tied xs) (ends_tied l.tied xs) (l.without ++ lacking xs)
after_is l [] = let a : l.items ≡ l.items ++ [] = sym (append-nil l.items) in let b : l.without ≡ l.without ++ [] = sym (append-nil l.without) in made l.items (l.items ++ []) l.without (l.without ++ []) a b
  where
    made : (a b : List Item) (c d : List ℕ) → a ≡ b → c ≡ d → level_of a l.tied c ≡ level_of b l.tied d
    made a b c d e f = ap (λ (x : List Item). level_of x l.tied c) e ∙ ap (λ (y : List ℕ). level_of b l.tied y) f
after_is l (anchor ∷ xs) = after_is (tied_level l) xs
after_is l (one item ∷ xs) =
    after_is (level_with l (item l.tied)) xs
    ∙ ap (λ (is : List Item). level_of is (ends_tied false xs) (l.without ++ lacking xs)) (append_assoc l.items (item l.tied ∷ []) (items_from false xs))
after_is l (lacks field ∷ xs) =
    after_is (level_lacking l field) xs
    ∙ ap (λ (fs : List ℕ). level_of (l.items ++ items_from l.tied xs) (ends_tied l.tied xs) fs) (append_assoc l.without (field ∷ []) (lacking xs))

pub item_is : (n : Names) (f : Option Written) (h : Head) (xs : List Piece) (m : Option Mark) (cs : List Written) (b : Bool) (inner : Level)
    → inner ≡ after empty_level xs → item_of n f h inner m cs b ≡ item_over n f h xs m cs b
item_is n f h xs m cs b inner is = ap (λ (l : Level). item_of n f h l m cs b) (is ∙ after_is empty_level xs)

-- one more part of a list
pub after_more : (n : Names) (all : List Part) (i : ℕ) (p : Part) (start now new : Level) → i < length all → p ≡ get_or all i p
    → now ≡ after start (pieces_in n (take i all)) → new ≡ after now (pieces n p) → new ≡ after start (pieces_in n (take (i + 1) all))
after_more n all i p start now new lt is before next =
    next
    ∙ ap (λ (l : Level). after l (pieces n p)) before
    ∙ sym (after_append start (pieces_in n (take i all)) (pieces n p))
    ∙ ap (after start) step
  where
    step : pieces_in n (take i all) ++ pieces n p ≡ pieces_in n (take (i + 1) all)
    step =
        ap (λ (xs : List Piece). pieces_in n (take i all) ++ xs) (sym (append-nil (pieces n p)))
        ∙ sym (flat_map-append (pieces n) (take i all) (p ∷ []))
        ∙ ap (pieces_in n) (ap (λ (y : Part). take i all ++ y ∷ []) is ∙ sym (take_more all i p lt))

-- what a step comes to
pub put_spliced : (n : Names) (f : Option Written) (h : Head) (ps qs : List Part) (m : Option Mark) (cs : List Written) (whole : Part) (old : Level)
    → whole ≡ part.Item f h ps m cs → is_spliced h m ≡ true → qs ≡ ps → after old (pieces_in n qs) ≡ after old (pieces n whole)
put_spliced n f h ps qs m cs whole old is spliced same =
    ap (λ (us : List Part). after old (pieces_in n us)) same ∙ ap (after old) (sym (of_spliced n f h ps m cs spliced) ∙ ap (pieces n) (sym is))

pub put_one : (n : Names) (f : Option Written) (h : Head) (ps qs : List Part) (m : Option Mark) (cs ds : List Written) (whole : Part) (old inner : Level) (item : Item)
    → whole ≡ part.Item f h ps m cs → is_spliced h m ≡ false → qs ≡ ps → ds ≡ cs → inner ≡ after empty_level (pieces_in n qs)
    → item ≡ item_of n f h inner m ds old.tied → level_with old item ≡ after old (pieces n whole)
put_one n f h ps qs m cs ds whole old inner item is other same also within made =
    ap (level_with old) (
    made
    ∙ ap (λ (us : List Written). item_of n f h inner m us old.tied) also
    ∙ item_is n f h (pieces_in n ps) m cs old.tied inner (within ∙ ap (λ (us : List Part). after empty_level (pieces_in n us)) same)
    )
    ∙ ap (after old) (sym (of_one n f h ps m cs other) ∙ ap (pieces n) (sym is))

pub ruleset piece_laws = (of_anchor, of_without, of_predicate)
