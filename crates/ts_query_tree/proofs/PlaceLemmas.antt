-- What is written in a query has its places in the order in which it is written.
use Rattle.std.proofs.Common.{◌≡◌, ◌∙◌, sym, ap, subst, refl, ℕ, ◌+◌, ◌<◌, ◌≤◌, Bool, true, false, List, [], ◌∷◌, ◌++◌, map, length, drop, slice_get, Option, Some, None, true≢false, append-nil, arith}
use Rattle.std.specs.Prelude.{⊤, ◌&&◌, ◌==◌, if◌then◌else◌}
use Rattle.std.specs.List.{flat_map, prefix_len}
use Rattle.std.proofs.lemmas.List.{append_assoc}
use Rattle.std.proofs.lemmas.List.Concat.{flat_map-append}
use Rattle.ts_base.specs.Bytes.{Bytes}
use Rattle.ts_query_tree.specs.declared.tree.Written.{Written}
use Rattle.ts_query_tree.specs.declared.tree.Mark.{Mark}
use Rattle.ts_query_tree.specs.declared.tree.Head.{Head}
use Rattle.ts_query_tree.specs.declared.tree.Head.TheVariants.{Any, Text, Node, Group, Choice}
use Rattle.ts_query_tree.specs.declared.tree.Operand.{Operand}
use Rattle.ts_query_tree.specs.declared.tree.Operand.TheVariants as operand
use Rattle.ts_query_tree.specs.declared.tree.Part.{Part as Value}
use Rattle.ts_query_tree.specs.declared.tree.Part.TheOpen.{Part-F}
use Rattle.ts_query_tree.specs.declared.tree.Part.TheVariants as value
use Rattle.ts_query_tree.specs.declared.tree.Part.TheVariants.{rolls-Item, rolls-Anchor, rolls-Without, rolls-Predicate}
use Rattle.ts_query_tree.specs.declared.tree.Part.TheFolds.{fold-roll-Part}
use Rattle.ts_query_tree.specs.declared.sign.Sign.{Sign}
use Rattle.ts_query_tree.specs.declared.sign.Sign.TheVariants as sign
use Rattle.ts_query_tree.specs.declared.sight.Sight.{Sight}
use Rattle.ts_query_tree.specs.declared.sight.Sight.TheVariants.{Sees, Cut, Strange}
use Rattle.ts_query_tree.specs.Words.{is_name_start, is_name_byte, name_end, gap_end, begins_name, holds, run, inside, ending}
use Rattle.ts_query_tree.specs.Signs.{written, without_from, sight, sight_of, sign_from, name_at, capture_at, without_at, predicate_at, is_predicate_mark, string, text_at}
use Rattle.ts_query_tree.specs.Trees.{Parts, empty, more, Part, item, anchor, without, predicate, spelling, part_spelling, head_spelling, field_spelling, mark_spelling, operand_sign, values_of, value_of}
use Rattle.ts_query_tree.specs.Reads.{Signs, IsQueryText, Reads}
use Rattle.ts_query_tree.specs.Places.{place_of, field_places, head_places, mark_places, operand_place, all_places, place_step, part_places, places_in, Rise}
use Rattle.ts_query_tree.proofs.LengthLemmas.{run_some, from_here}

-- ---- places that rise

later : (h i j : ℕ) (ps : List ℕ) → h ≤ i → Rise i ps j → Rise h ps j
later h i j [] le r = omega (arith, le, r)
later h i j (p ∷ ps) le r = (omega (arith, le, r.0), r.1)

joined : (i j k : ℕ) (ps qs : List ℕ) → Rise i ps j → Rise j qs k → Rise i (ps ++ qs) k
joined i j k [] qs a b = later i j k qs a b
joined i j k (p ∷ ps) qs a b = (a.0, joined (p + 1) j k ps qs a.1 b)

-- ---- one sign

-- where a sign says that it stands
abbrev sign_places : Sign → List ℕ
sign_places sign.Open = []
sign_places sign.Close = []
sign_places sign.OpenChoice = []
sign_places sign.CloseChoice = []
sign_places sign.Anchor = []
sign_places sign.Colon = []
sign_places (sign.Mark mark) = mark.at ∷ []
sign_places (sign.Name name) = name.at ∷ []
sign_places (sign.Text text) = text.at ∷ []
sign_places (sign.Capture name) = name.at ∷ []
sign_places (sign.Without name) = name.at ∷ []
sign_places (sign.Predicate name) = name.at ∷ []

-- what is seen at a place stands between it and the place behind
abbrev Stands : ℕ → Sight → Type 0
Stands i (Sees s j) = Rise i (sign_places s) j
Stands i (Cut s j) = ⊤
Stands i Strange = ⊤

either : (i : ℕ) (b : Bool) (x y : Sight) → Stands i x → Stands i y → Stands i (if b then x else y)
either i true x y a c = a
either i false x y a c = c

-- a name has a byte
name_some : (w : Bytes) (k : ℕ) → begins_name w k ≡ true → 0 < run is_name_byte w k
name_some w k e = by (slice_get w k) refl e
  where
    by : (o : Option ℕ) → slice_get w k ≡ o → holds is_name_start o ≡ true → 0 < run is_name_byte w k
    by None at h = absurd (true≢false (sym h))
    by (Some c) at h = run_some (drop k w) c (from_here w k ∙ at) h

capture_stands : (w : Bytes) (i : ℕ) → Stands i (capture_at w i)
capture_stands w i = either i (begins_name w (gap_end w (i + 1))) _ _ (omega arith, omega arith) tt

without_from_stands : (w : Bytes) (i k : ℕ) → i ≤ k → Stands i (without_from w i k)
without_from_stands w i k le = by (begins_name w k) refl
  where
    by : (b : Bool) → begins_name w k ≡ b → Stands i (if b then Sees (sign.Without (written w k k (name_end w k))) (name_end w k) else Cut (sign.Without (written w k i i)) k)
    by true e = let some = name_some w k e in (le, omega (arith, some))
    by false e = tt

without_stands : (w : Bytes) (i : ℕ) → Stands i (without_at w i)
without_stands w i = without_from_stands w i (gap_end w (i + 1)) (omega arith)

predicate_stands : (w : Bytes) (i : ℕ) → Stands i (predicate_at w i)
predicate_stands w i =
    either i (begins_name w (gap_end w (i + 1)) && is_predicate_mark (slice_get w (name_end w (gap_end w (i + 1))))) _ _ (omega arith, omega arith) tt

string_stands : (i j : ℕ) (x : Option (Bytes × ℕ)) → i < j → Stands i (string i (ending j x))
string_stands i j None h = tt
string_stands i j (Some x) h = (omega arith, omega (arith, h))

text_stands : (w : Bytes) (i : ℕ) → Stands i (text_at w i)
text_stands w i = string_stands i (i + 1) (inside (drop (i + 1) w)) (omega arith)

name_stands : (w : Bytes) (i c : ℕ) (b : Bool) → slice_get w i ≡ Some c → is_name_start c ≡ b → Stands i (if b then name_at w i else Strange)
name_stands w i c true at h = let some = run_some (drop i w) c (from_here w i ∙ at) h in (omega arith, omega (arith, some))
name_stands w i c false at h = tt

sign_stands : (w : Bytes) (i c : ℕ) → slice_get w i ≡ Some c → Stands i (sign_from w i c)
sign_stands w i c at =
    either i (c == 40) _ _ (omega arith)
    (either i (c == 41) _ _ (omega arith)
    (either i (c == 91) _ _ (omega arith)
    (either i (c == 93) _ _ (omega arith)
    (either i (c == 46) _ _ (omega arith)
    (either i (c == 58) _ _ (omega arith)
    (either i (c == 63) _ _ (omega arith, omega arith)
    (either i (c == 42) _ _ (omega arith, omega arith)
    (either i (c == 43) _ _ (omega arith, omega arith)
    (either i (c == 34) _ _ (text_stands w i)
    (either i (c == 64) _ _ (capture_stands w i)
    (either i (c == 33) _ _ (without_stands w i)
    (either i (c == 35) _ _ (predicate_stands w i)
    (name_stands w i c (is_name_start c) at refl)))))))))))))

sight_stands : (w : Bytes) (i : ℕ) (x : Option ℕ) → slice_get w i ≡ x → Stands i (sight_of w i x)
sight_stands w i None at = tt
sight_stands w i (Some c) at = sign_stands w i c at

seen_stands : (w : Bytes) (i j : ℕ) (s : Sign) → sight w i ≡ Sees s j → Rise i (sign_places s) j
seen_stands w i j s e = subst (λ (x : Sight). Stands i x) e (sight_stands w i (slice_get w i) refl)

-- ---- all signs

abbrev places : List Sign → List ℕ
places = flat_map sign_places

signs_rise : (w : Bytes) (ss : List Sign) (i j : ℕ) → Signs w i ss j → Rise i (places ss) j
signs_rise w [] i j h = omega (arith, h)
signs_rise w (s ∷ ss) i j h =
    joined i h.0 j (sign_places s) (places ss) (later i (gap_end w i) h.0 (sign_places s) (omega arith) (seen_stands w (gap_end w i) h.0 s h.1)) (signs_rise w ss h.0 j h.2)

-- ---- parts

all_map : (xs : List Value) → all_places (map part_places xs) ≡ places_in xs
all_map [] = refl
all_map (x ∷ xs) = ap (λ (ps : List ℕ). part_places x ++ ps) (all_map xs)

of_item : (f : Option Written) (h : Head) (xs : List Value) (m : Option Mark) (cs : List Written) →
    part_places (value.Item f h xs m cs) ≡ field_places f ++ (head_places h ++ (places_in xs ++ (mark_places m ++ map place_of cs)))
of_item f h xs m cs =
    ap part_places (sym (rolls-Item f h xs m cs)) ∙ fold-roll-Part (List ℕ) place_step (Part-F.Item f h xs m cs)
    ∙ ap (λ (ps : List ℕ). field_places f ++ (head_places h ++ (ps ++ (mark_places m ++ map place_of cs)))) (all_map xs)

of_anchor : part_places value.Anchor ≡ []
of_anchor = ap part_places (sym rolls-Anchor) ∙ fold-roll-Part (List ℕ) place_step Part-F.Anchor

of_without : (name : Written) → part_places (value.Without name) ≡ name.at ∷ []
of_without name = ap part_places (sym (rolls-Without name)) ∙ fold-roll-Part (List ℕ) place_step (Part-F.Without name)

of_predicate : (name : Written) (os : List Operand) → part_places (value.Predicate name os) ≡ name.at ∷ map operand_place os
of_predicate name os = ap part_places (sym (rolls-Predicate name os)) ∙ fold-roll-Part (List ℕ) place_step (Part-F.Predicate name os)

field_same : (f : Option Written) → places (field_spelling f) ≡ field_places f
field_same None = refl
field_same (Some name) = refl

mark_same : (m : Option Mark) → places (mark_spelling m) ≡ mark_places m
mark_same None = refl
mark_same (Some mark) = refl

captures_same : (cs : List Written) → places (map sign.Capture cs) ≡ map place_of cs
captures_same [] = refl
captures_same (c ∷ cs) = ap (λ (ps : List ℕ). c.at ∷ ps) (captures_same cs)

operands_same : (os : List Operand) → places (map operand_sign os) ≡ map operand_place os
operands_same [] = refl
operands_same (operand.Capture name ∷ os) = ap (λ (ps : List ℕ). name.at ∷ ps) (operands_same os)
operands_same (operand.Text text ∷ os) = ap (λ (ps : List ℕ). text.at ∷ ps) (operands_same os)
operands_same (operand.Name name ∷ os) = ap (λ (ps : List ℕ). name.at ∷ ps) (operands_same os)

-- a sign without a place at the end
closed_same : (ss : List Sign) (s : Sign) → sign_places s ≡ [] → places (ss ++ s ∷ []) ≡ places ss
closed_same ss s e =
    flat_map-append sign_places ss (s ∷ []) ∙ ap (λ (ps : List ℕ). places ss ++ (ps ++ [])) e ∙ append-nil (places ss)

head_same : (h : Head) (inner : List Sign) → places (head_spelling h inner) ≡ head_places h ++ places inner
head_same (Any at) inner = refl
head_same (Text text) inner = refl
head_same (Node kind) inner = ap (λ (ps : List ℕ). kind.at ∷ ps) (closed_same inner sign.Close refl)
head_same Group inner = closed_same inner sign.Close refl
head_same Choice inner = closed_same inner sign.CloseChoice refl

item_same : (f : Option Written) (h : Head) (inner : List Sign) (m : Option Mark) (cs : List Written) →
    places (field_spelling f ++ (head_spelling h inner ++ (mark_spelling m ++ map sign.Capture cs)))
    ≡ field_places f ++ (head_places h ++ (places inner ++ (mark_places m ++ map place_of cs)))
item_same f h inner m cs =
    flat_map-append sign_places (field_spelling f) (head_spelling h inner ++ (mark_spelling m ++ map sign.Capture cs))
    ∙ ap (λ (ps : List ℕ). ps ++ places (head_spelling h inner ++ (mark_spelling m ++ map sign.Capture cs))) (field_same f)
    ∙ ap (λ (ps : List ℕ). field_places f ++ ps)
    (flat_map-append sign_places (head_spelling h inner) (mark_spelling m ++ map sign.Capture cs)
    ∙ ap (λ (ps : List ℕ). ps ++ places (mark_spelling m ++ map sign.Capture cs)) (head_same h inner)
    ∙ append_assoc (head_places h) (places inner) (places (mark_spelling m ++ map sign.Capture cs))
    ∙ ap (λ (ps : List ℕ). head_places h ++ (places inner ++ ps))
    (flat_map-append sign_places (mark_spelling m) (map sign.Capture cs)
    ∙ ap (λ (ps : List ℕ). ps ++ places (map sign.Capture cs)) (mark_same m)
    ∙ ap (λ (ps : List ℕ). mark_places m ++ ps) (captures_same cs)))

mutual
  parts_same : (ps : Parts) → places (spelling ps) ≡ places_in (values_of ps)
  parts_same empty = refl
  parts_same (more ps p) =
      flat_map-append sign_places (spelling ps) (part_spelling p)
      ∙ ap (λ (qs : List ℕ). qs ++ places (part_spelling p)) (parts_same ps)
      ∙ ap (λ (qs : List ℕ). places_in (values_of ps) ++ qs) (part_same p ∙ sym (append-nil (part_places (value_of p))))
      ∙ sym (flat_map-append part_places (values_of ps) (value_of p ∷ []))

  part_same : (p : Part) → places (part_spelling p) ≡ part_places (value_of p)
  part_same (item f h qs m cs) =
      item_same f h (spelling qs) m cs
      ∙ ap (λ (ps : List ℕ). field_places f ++ (head_places h ++ (ps ++ (mark_places m ++ map place_of cs)))) (parts_same qs)
      ∙ sym (of_item f h (values_of qs) m cs)
  part_same anchor = sym of_anchor
  part_same (without name) = sym (of_without name)
  part_same (predicate name os) =
      ap (λ (ps : List ℕ). name.at ∷ ps) (closed_same (map operand_sign os) sign.Close refl ∙ operands_same os)
      ∙ sym (of_predicate name os)

-- ---- the law

pub read_rises : (x : List Value) (w : Bytes) → Reads w x → Rise 0 (places_in x) (length w)
read_rises x w r =
    subst (λ (ps : List ℕ). Rise 0 ps (length w)) (parts_same r.0 ∙ ap places_in (sym r.3))
    (subst (λ (n : ℕ). Rise 0 (places (spelling r.0)) n) r.1.3
    (until r.1.1 (signs_rise w (spelling r.0) 0 r.1.1 r.1.2)))
  where
    longer : (i j k : ℕ) (ps : List ℕ) → j ≤ k → Rise i ps j → Rise i ps k
    longer i j k [] le a = omega (arith, le, a)
    longer i j k (p ∷ ps) le a = (a.0, longer (p + 1) j k ps le a.1)

    until : (j : ℕ) → Rise 0 (places (spelling r.0)) j → Rise 0 (places (spelling r.0)) (gap_end w j)
    until j a = longer 0 j (gap_end w j) (places (spelling r.0)) (omega arith) a
