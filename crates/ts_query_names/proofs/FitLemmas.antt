-- A query names no more than it has signs.
use Rattle.std.proofs.Common.{◌≡◌, ◌∙◌, sym, ap, subst, ℕ, ◌+◌, ◌≤◌, Bool, true, false, List, [], ◌∷◌, map, ◌++◌, length, Some, arith}
use Rattle.std.specs.Prelude.{Option, None, if◌then◌else◌}
use Rattle.std.specs.List.{flat_map}
use Rattle.std.proofs.lemmas.List.{length-append, length-map}
use Rattle.std.proofs.lemmas.List.Concat.{flat_map-append}
use Rattle.ts_base.specs.Bytes.{Bytes}
use Rattle.ts_query_tree.specs.declared.tree.Written.{Written}
use Rattle.ts_query_tree.specs.declared.tree.Mark.{Mark}
use Rattle.ts_query_tree.specs.declared.tree.Head.{Head}
use Rattle.ts_query_tree.specs.declared.tree.Head.TheVariants as head
use Rattle.ts_query_tree.specs.declared.tree.Operand.{Operand}
use Rattle.ts_query_tree.specs.declared.tree.Operand.TheVariants as operand
use Rattle.ts_query_tree.specs.declared.tree.Part.{Part as Value}
use Rattle.ts_query_tree.specs.Trees.{Parts, empty, more, Part, item, anchor, without, predicate, values_of, value_of, spelling, part_spelling, field_spelling, head_spelling, mark_spelling, operand_sign, wild}
use Rattle.ts_query_tree.specs.Words.{is_wild}
use Rattle.ts_query_tree.specs.Reads.{Reads, IsQueryText}
use Rattle.ts_query_names.specs.Mentions.{Mention, mentions, mentions_in, named_in, is_round, field_mentions, node_mentions, head_mentions, nested_if, mark_mentions, kinds_named, kind_named, any_captures, any_capture, operand_capture}
use Rattle.ts_query_names.specs.Mentions as mention
use Rattle.ts_query_names.proofs.MentionLemmas.{of_item, of_anchor, of_without, of_predicate}

-- ---- lists of signs, by their lengths

module _ {X : Type 0} where
  in_brackets : (a c : X) (xs : List X) (n : ℕ) → n ≤ length xs → n ≤ length (a ∷ (xs ++ c ∷ []))
  in_brackets a c xs n h = omega (arith, h, length-append xs (c ∷ []))

  in_node : (a b c : X) (xs : List X) (n : ℕ) → n ≤ length xs + 1 → n ≤ length (a ∷ b ∷ (xs ++ c ∷ []))
  in_node a b c xs n h = omega (arith, h, length-append xs (c ∷ []))

  four_long : {Y : Type 0} (a b c : List X) (f : Y → X) (ys : List Y) (n : ℕ) → n ≤ length a + (length b + (length c + length ys)) → n ≤ length (a ++ (b ++ (c ++ map f ys)))
  four_long a b c f ys n h = omega (arith, h, length-append a (b ++ (c ++ map f ys)), length-append b (c ++ map f ys), length-append c (map f ys), length-map ys f)

  around : {Y : Type 0} (a b c : X) (f : Y → X) (ys : List Y) (n : ℕ) → n ≤ 1 + length ys → n ≤ length (a ∷ b ∷ (map f ys ++ c ∷ []))
  around a b c f ys n h = omega (arith, h, length-append (map f ys) (c ∷ []), length-map ys f)

-- what is counted of a mention is no more than its signs
record Cheap {A : Type 0} (f : Mention → List A) : Type 0 where
  kind : (w : Written) (b : Bool) → length (f (mention.kind w b)) ≤ 1
  field : (w : Written) → length (f (mention.field w)) ≤ 1
  capture : (w : Written) → length (f (mention.capture w)) ≤ 1
  predicate : (w : Written) (os : List Operand) → length (f (mention.predicate w os)) ≤ 1 + length os
  nested : (n : ℕ) → length (f (mention.nested n)) ≤ 1

module _ {A : Type 0} (f : Mention → List A) (cheap : Cheap f) where
  abbrev count : List Mention → ℕ
  count ms = length (flat_map f ms)

  count_append : (xs ys : List Mention) → count (xs ++ ys) ≡ count xs + count ys
  count_append xs ys = ap (λ (zs : List A). length zs) (flat_map-append f xs ys) ∙ length-append (flat_map f xs) (flat_map f ys)

  count_one : (m : Mention) → count (m ∷ []) ≡ length (f m)
  count_one m = let e : count (m ∷ []) ≡ length (f m) + 0 = length-append (f m) [] in omega (arith, e)

  count_field : (o : Option Written) → count (field_mentions o) ≤ length (field_spelling o)
  count_field None = omega arith
  count_field (Some w) = omega (arith, count_one (mention.field w), cheap.field w)

  count_node : (w : Written) (b : Bool) → count (if b then [] else mention.kind w true ∷ []) ≤ 1
  count_node w true = omega arith
  count_node w false = omega (arith, count_one (mention.kind w true), cheap.kind w true)

  count_mark : (b : Bool) (o : Option Mark) → count (mark_mentions b o) ≤ length (mark_spelling o)
  count_mark b None = omega arith
  count_mark true (Some m) = omega (arith, count_one (mention.nested m.at), cheap.nested m.at)
  count_mark false (Some m) = omega arith

  count_captures : (cs : List Written) → count (map mention.capture cs) ≤ length cs
  count_captures [] = omega arith
  count_captures (c ∷ cs) = omega (arith, count_append (mention.capture c ∷ []) (map mention.capture cs), count_one (mention.capture c), cheap.capture c, count_captures cs)

  count_head : (h : Head) (ms : List Mention) (ps : Parts) → count ms ≤ length (spelling ps) → count (head_mentions h ++ ms) ≤ length (head_spelling h (spelling ps))
  count_head (head.Any at) ms ps le = omega (arith, le)
  count_head (head.Text w) ms ps le = omega (arith, le, count_append (mention.kind w false ∷ []) ms, count_one (mention.kind w false), cheap.kind w false)
  count_head (head.Node w) ms ps le =
      let few : count (node_mentions w ++ ms) ≤ length (spelling ps) + 1 = omega (arith, le, count_append (node_mentions w) ms, count_node w (is_wild w.text)) in
      in_node (operand_sign (operand.Name w)) (operand_sign (operand.Name w)) _ (spelling ps) (count (node_mentions w ++ ms)) few
  count_head head.Group ms ps le = in_brackets (operand_sign (operand.Name (wild 0))) _ (spelling ps) (count ms) le
  count_head head.Choice ms ps le = in_brackets (operand_sign (operand.Name (wild 0))) _ (spelling ps) (count ms) le

  -- of an item, from what is counted of its parts
  count_item : (o : Option Written) (h : Head) (ms : List Mention) (ps : Parts) (m : Option Mark) (cs : List Written) (b : Bool) → count ms ≤ length (spelling ps)
      → count (field_mentions o ++ (head_mentions h ++ (ms ++ (mark_mentions b m ++ map mention.capture cs)))) ≤ length (part_spelling (item o h ps m cs))
  count_item o h ms ps m cs b le =
      let few : count (field_mentions o ++ (head_mentions h ++ (ms ++ (mark_mentions b m ++ map mention.capture cs))))
      ≤ length (field_spelling o) + (length (head_spelling h (spelling ps)) + (length (mark_spelling m) + length cs)) =
      omega (
        arith,
        count_append (field_mentions o) (head_mentions h ++ (ms ++ (mark_mentions b m ++ map mention.capture cs))),
        count_append (head_mentions h) (ms ++ (mark_mentions b m ++ map mention.capture cs)),
        count_append ms (mark_mentions b m ++ map mention.capture cs),
        count_append (mark_mentions b m) (map mention.capture cs),
        count_append (head_mentions h) ms,
        count_field o,
        count_head h ms ps le,
        count_mark b m,
        count_captures cs,
      ) in
      four_long (field_spelling o) (head_spelling h (spelling ps)) (mark_spelling m) _ cs _ few

  mutual
    count_parts : (q : Parts) (b : Bool) → count (mentions_in (values_of q) b) ≤ length (spelling q)
    count_parts empty b = omega arith
    count_parts (more ps p) b =
        let apart : mentions_in (values_of ps ++ value_of p ∷ []) b ≡ mentions_in (values_of ps) b ++ mentions_in (value_of p ∷ []) b = flat_map-append (λ (v : Value). mentions v b) (values_of ps) (value_of p ∷ []) in
        omega (
          arith,
          ap count apart,
          count_append (mentions_in (values_of ps) b) (mentions_in (value_of p ∷ []) b),
          count_append (mentions (value_of p) b) [],
          count_parts ps b,
          count_part p b,
          length-append (spelling ps) (part_spelling p),
        )

    count_part : (p : Part) (b : Bool) → count (mentions (value_of p) b) ≤ length (part_spelling p)
    count_part (item o h ps m cs) b =
        let inner = count_item o h (mentions_in (values_of ps) (is_round h m)) ps m cs b (count_parts ps (is_round h m)) in
        omega (arith, ap count (of_item o h (values_of ps) m cs b), inner)
    count_part anchor b = omega (arith, ap count (of_anchor b))
    count_part (without w) b = omega (arith, ap count (of_without w b), count_one (mention.field w), cheap.field w)
    count_part (predicate w os) b =
        let few : count (mentions (value_of (predicate w os)) b) ≤ 1 + length os = omega (arith, ap count (of_predicate w os b), count_one (mention.predicate w os), cheap.predicate w os) in
        around (operand_sign (operand.Name w)) (operand_sign (operand.Name w)) _ operand_sign os (count (mentions (value_of (predicate w os)) b)) few

-- ---- kinds, captures and patterns

cheap_kinds : Cheap kind_named
cheap_kinds = record {
  kind = λ w b. omega arith;
  field = λ w. omega arith;
  capture = λ w. omega arith;
  predicate = λ w os. omega arith;
  nested = λ n. omega arith;
}

operands_few : (os : List Operand) → length (flat_map operand_capture os) ≤ length os
operands_few [] = omega arith
operands_few (operand.Capture w ∷ os) = omega (arith, operands_few os)
operands_few (operand.Text w ∷ os) = omega (arith, operands_few os)
operands_few (operand.Name w ∷ os) = omega (arith, operands_few os)

cheap_captures : Cheap any_capture
cheap_captures = record {
  kind = λ w b. omega arith;
  field = λ w. omega arith;
  capture = λ w. omega arith;
  predicate = λ w os. omega (arith, operands_few os);
  nested = λ n. omega arith;
}

head_long : (h : Head) (ps : Parts) → 1 ≤ length (head_spelling h (spelling ps))
head_long (head.Any at) ps = omega arith
head_long (head.Text w) ps = omega arith
head_long (head.Node w) ps = omega arith
head_long head.Group ps = omega arith
head_long head.Choice ps = omega arith

part_long : (p : Part) → 1 ≤ length (part_spelling p)
part_long (item o h ps m cs) =
    let one : 1 ≤ length (field_spelling o) + (length (head_spelling h (spelling ps)) + (length (mark_spelling m) + length cs)) = omega (arith, head_long h ps) in
    four_long (field_spelling o) (head_spelling h (spelling ps)) (mark_spelling m) _ cs 1 one
part_long anchor = omega arith
part_long (without w) = omega arith
part_long (predicate w os) = omega arith

count_values : (q : Parts) → length (values_of q) ≤ length (spelling q)
count_values empty = omega arith
count_values (more ps p) = omega (arith, count_values ps, part_long p, length-append (values_of ps) (value_of p ∷ []), length-append (spelling ps) (part_spelling p))

abbrev pub Fits : Type 0
Fits = (q : Parts) (w : Bytes) → IsQueryText w q → length (spelling q) ≤ length w

pub kinds_fit : Fits → (x : List Value) (w : Bytes) → Reads w x → length (kinds_named (named_in x)) ≤ length w
kinds_fit fits x w h = subst (λ (v : List Value). length (kinds_named (named_in v)) ≤ length w) (sym h.3) (omega (arith, count_parts kind_named cheap_kinds h.0 false, fits h.0 w h.1))

pub captures_fit : Fits → (x : List Value) (w : Bytes) → Reads w x → length (any_captures (named_in x)) ≤ length w
captures_fit fits x w h = subst (λ (v : List Value). length (any_captures (named_in v)) ≤ length w) (sym h.3) (omega (arith, count_parts any_capture cheap_captures h.0 false, fits h.0 w h.1))

pub patterns_fit : Fits → (x : List Value) (w : Bytes) → Reads w x → length x ≤ length w
patterns_fit fits x w h = subst (λ (v : List Value). length v ≤ length w) (sym h.3) (omega (arith, count_values h.0, fits h.0 w h.1))
