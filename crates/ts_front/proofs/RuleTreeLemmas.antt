-- What a rule tree comes to, where the texts and numbers in it are typed: the name, the precedences
-- and the expression of a token, and the steps of its alternatives.
use Rattle.std.proofs.Common.{◌≡◌, sym, ap, subst, ℕ, ℤ, Bool, true, false, List, [], ◌∷◌, ◌++◌, map, None, arith}
use Rattle.std.specs.List.{Contains, AllByRecursion}
use Rattle.std.specs.Str.{IsUtf8}
use Rattle.std.proofs.lemmas.Str.{IsUtf8-nil}
use Rattle.std.proofs.lemmas.List.Elements.{Contains-append_left, Contains-append_right}
use Rattle.ts_core.specs.declared.flat.Alias.{Alias}
use Rattle.ts_core.specs.declared.flat.Assoc.{Assoc}
use Rattle.ts_core.specs.declared.re.Re.{Re}
use Rattle.ts_core.specs.declared.rule.PrecValue.{PrecValue}
use Rattle.ts_core.specs.declared.rule.Rule.{Rule}
use Rattle.ts_core.specs.declared.rule.Rule.TheBlock.{the_family, member-Rule}
use Rattle.ts_core.specs.declared.rule.Rule.TheFolds.{ind-Rule, map-Rule, claims, para-roll-Rule, fold-roll-Rule}
use Rattle.ts_core.specs.declared.rule.Rule.TheOpen.{Rule-F}
use Rattle.ts_core.specs.declared.rule.Rule.TheVariants as rule
use Rattle.ts_core.specs.declared.rule.Rule.TheViews.{roll-Rule, out-Rule, out-roll-Rule}
use Rattle.ts_rules.specs.declared.tree.Tree.{Tree}
use Rattle.ts_rules.specs.declared.tree.Tree.TheVariants as tree
use Rattle.ts_rules.specs.Numbers.{Numbers, Numbered, inner_trees, tree_of, tree_step, has_blank, has_steps, where_so, any_times, many_times, prec_of}
use Rattle.ts_rules.specs.Sights.{Sight, Source, SeenBelow, seen_all, below, below_step, sights_within, alias, alias_layer, pattern_layer}
use Rattle.ts_rules.specs.Tokens.{Patterns, Core, core, core_step, core_name, number_of, under, under_step, lexical_layer, lexical_precedence, tree_re, re_step}
use Rattle.ts_front.specs.Typed.{IsNumber, IsTypedPrec, IsTypedValue, IsTypedLayer}
use Rattle.ts_front.proofs.CountLemmas.{CountsTo, empty_to, cat_of_to, alt_of_to, repeat_to, text_to}
use Rattle.ts_front.proofs.MemberLemmas.{head_in, tail_in}
use Rattle.ts_front.proofs.StepLemmas.{IsTypedTree, zero_number, blank_typed, step_typed, field_typed, alias_typed, dynamic_typed, group_typed, seq_typed, choice_typed}
use denote.Hole.Holds.{Such}

abbrev most : ℕ
most = 4294967295

value_number : (value : PrecValue) → IsTypedValue value → IsNumber (number_of value)
value_number (PrecValue.Number value) h = h
value_number (PrecValue.Name name) h = zero_number

module _ (n : Numbers) (pattern : Patterns) where
  -- a layer whose texts and numbers are typed, with what its pattern and its alias are
  pub record IsReady (layer : Rule-F Rule) : Type 0 where
    pub typed : IsTypedLayer layer
    pub patterns : (source : Source) → Contains (pattern_layer layer) source → CountsTo most (pattern source.0 source.1)
    pub aliases : (a : Alias) → Contains (alias_layer layer) a → n.alias_at (n.alias a) ≡ a

  abbrev pub AreReady : List Sight → Type 0
  AreReady all = (s : Sight) → Contains all s → IsReady (out-Rule s.tree)

  pub record Comes (t : Rule) : Type 0 where
    pub name : IsUtf8 (core_name (core t))
    pub number : IsNumber (under t)
    pub lexical : IsNumber (lexical_precedence t)
    pub counts : CountsTo most (tree_re pattern t)
    pub tree : IsTypedTree n (tree_of n t)

  abbrev IsTold : Rule → Type 0
  IsTold t = (inside : Bool) → AreReady (sights_within t inside) → Comes t

  abbrev Child : Type 0
  Child = Such the_family (claims IsTold) member-Rule

  abbrev inner : Child → Rule
  inner child = child.0

  abbrev numbered : Rule → Numbered
  numbered r = (r, tree_of n r)

  abbrev seen_below : Rule → SeenBelow
  seen_below r = (r, below r)

  told_of : (e : Child) (inside : Bool) → AreReady (sights_within (inner e) inside) → Comes (inner e)
  told_of e inside h = let k : IsTold e.0 = e.1 in k inside h

  all_told : (es : List Child) (inside : Bool) → AreReady (seen_all (map seen_below (map inner es)) inside) → AllByRecursion Comes (map inner es)
  all_told [] inside h = tt
  all_told (e ∷ es) inside h = (
    told_of e inside (λ s w. h s (Contains-append_left (sights_within (inner e) inside) (seen_all (map seen_below (map inner es)) inside) s w)),
    all_told es inside (λ s w. h s (Contains-append_right (sights_within (inner e) inside) (seen_all (map seen_below (map inner es)) inside) s w)),
  )

  all_counts : (ts : List Rule) → AllByRecursion Comes ts → AllByRecursion (CountsTo most) (map (tree_re pattern) ts)
  all_counts [] h = tt
  all_counts (t ∷ ts) h = (h.0.counts, all_counts ts h.1)

  all_trees : (ts : List Rule) → AllByRecursion Comes ts → AllByRecursion (IsTypedTree n) (inner_trees (map numbered ts))
  all_trees [] h = tt
  all_trees (t ∷ ts) h = (h.0.tree, all_trees ts h.1)

  -- ---- repeats

  either : (b : Bool) (t : Tree) → IsTypedTree n t → AllByRecursion (IsTypedTree n) (where_so b t)
  either true t h = (h, tt)
  either false t h = tt

  two : (xs ys : List Tree) → AllByRecursion (IsTypedTree n) xs → AllByRecursion (IsTypedTree n) ys → AllByRecursion (IsTypedTree n) (xs ++ ys)
  two [] ys h k = k
  two (x ∷ xs) ys h k = (h.0, two xs ys h.1 k)

  any_typed : (k : ℕ) (t : Tree) → IsTypedTree n (any_times k t)
  any_typed k t = choice_typed n (where_so (has_steps t) (tree.Step k) ++ tree.Blank ∷ [])
      (two (where_so (has_steps t) (tree.Step k)) (tree.Blank ∷ []) (either (has_steps t) (tree.Step k) (step_typed n k)) (blank_typed n, tt))

  many_typed : (k : ℕ) (t : Tree) → IsTypedTree n (many_times k t)
  many_typed k t = choice_typed n (where_so (has_steps t) (tree.Step k) ++ where_so (has_blank t) tree.Blank)
      (two (where_so (has_steps t) (tree.Step k)) (where_so (has_blank t) tree.Blank)
      (either (has_steps t) (tree.Step k) (step_typed n k)) (either (has_blank t) tree.Blank (blank_typed n)))

  value_prec : (value : PrecValue) → IsTypedValue value → IsTypedPrec (prec_of n value)
  value_prec (PrecValue.Number value) h = h
  value_prec (PrecValue.Name name) h = tt

  -- ---- layers

  record LayerComes (x : Rule-F Rule) : Type 0 where
    name : IsUtf8 (core_name (core_step (map-Rule Rule Core core x)))
    number : IsNumber (under_step (map-Rule Rule ℤ under x))
    lexical : IsNumber (lexical_layer x)
    counts : CountsTo most (re_step pattern (map-Rule Rule Re (tree_re pattern) x))
    tree : IsTypedTree n (tree_step n (map-Rule Rule Numbered numbered x))

  alias_text : (value : List ℕ) (named : Bool) → n.alias_at (n.alias (alias value named)) ≡ alias value named → IsUtf8 value → IsUtf8 (n.alias_at (n.alias (alias value named))).name
  alias_text value named e h = subst (λ (a : Alias). IsUtf8 a.name) (sym e) h

  layer_told : (y : Rule-F Child) (inside : Bool) → IsReady (map-Rule Child Rule inner y) → AreReady (below_step (map-Rule Rule SeenBelow seen_below (map-Rule Child Rule inner y)) inside)
      → LayerComes (map-Rule Child Rule inner y)
  layer_told Rule-F.Blank inside h k = record { name = IsUtf8-nil; number = zero_number; lexical = zero_number; counts = empty_to most; tree = blank_typed n }
  layer_told (Rule-F.Literal value) inside h k = record { name = h.typed; number = zero_number; lexical = zero_number; counts = text_to most value; tree = step_typed n (n.token (rule.Literal value)) }
  layer_told (Rule-F.Pattern value ignore_case) inside h k = record {
    name = h.typed;
    number = zero_number;
    lexical = zero_number;
    counts = h.patterns (value, ignore_case) (head_in (value, ignore_case) []);
    tree = step_typed n (n.token (rule.Pattern value ignore_case));
  }
  layer_told (Rule-F.Symbol name) inside h k = record { name = IsUtf8-nil; number = zero_number; lexical = zero_number; counts = empty_to most; tree = step_typed n (n.rule name) }
  layer_told (Rule-F.Seq es) inside h k =
      let all = all_told es inside k in
      record {
        name = IsUtf8-nil;
        number = zero_number;
        lexical = zero_number;
        counts = cat_of_to most (map (tree_re pattern) (map inner es)) (all_counts (map inner es) all);
        tree = seq_typed n (inner_trees (map numbered (map inner es))) (all_trees (map inner es) all);
      }
  layer_told (Rule-F.Choice es) inside h k =
      let all = all_told es inside k in
      record {
        name = IsUtf8-nil;
        number = zero_number;
        lexical = zero_number;
        counts = alt_of_to most (map (tree_re pattern) (map inner es)) (all_counts (map inner es) all);
        tree = choice_typed n (inner_trees (map numbered (map inner es))) (all_trees (map inner es) all);
      }
  layer_told (Rule-F.Repeat e) inside h k =
      let one = told_of e inside k in
      record {
        name = IsUtf8-nil;
        number = zero_number;
        lexical = zero_number;
        counts = repeat_to most (tree_re pattern (inner e)) 0 None one.counts (omega arith) (omega arith);
        tree = any_typed (n.repetition (inner e)) (tree_of n (inner e));
      }
  layer_told (Rule-F.Repeat1 e) inside h k =
      let one = told_of e inside k in
      record {
        name = IsUtf8-nil;
        number = zero_number;
        lexical = zero_number;
        counts = repeat_to most (tree_re pattern (inner e)) 1 None one.counts (omega arith) (omega arith);
        tree = many_typed (n.repetition (inner e)) (tree_of n (inner e));
      }
  layer_told (Rule-F.Token e) inside h k =
      let one = told_of e true k in
      record { name = one.name; number = one.number; lexical = one.number; counts = one.counts; tree = step_typed n (n.token (rule.Token (inner e))) }
  layer_told (Rule-F.ImmediateToken e) inside h k =
      let one = told_of e true k in
      record { name = one.name; number = one.number; lexical = one.number; counts = one.counts; tree = step_typed n (n.token (rule.ImmediateToken (inner e))) }
  layer_told (Rule-F.Field name e) inside h k =
      let one = told_of e inside k in
      record { name = IsUtf8-nil; number = zero_number; lexical = zero_number; counts = one.counts; tree = field_typed n (n.field name) (tree_of n (inner e)) one.tree }
  layer_told (Rule-F.Alias e named value) inside h k =
      let one = told_of e inside k in
      let same = h.aliases (alias value named) (head_in (alias value named) []) in
      record {
        name = IsUtf8-nil;
        number = zero_number;
        lexical = zero_number;
        counts = one.counts;
        tree = alias_typed n (n.alias (alias value named)) (tree_of n (inner e)) (alias_text value named same h.typed) one.tree;
      }
  layer_told (Rule-F.Prec value e) inside h k =
      let one = told_of e inside k in
      record { name = one.name; number = value_number value h.typed; lexical = zero_number; counts = one.counts; tree = group_typed n (prec_of n value) Assoc.Absent (tree_of n (inner e)) (value_prec value h.typed) one.tree }
  layer_told (Rule-F.PrecLeft value e) inside h k =
      let one = told_of e inside k in
      record { name = one.name; number = value_number value h.typed; lexical = zero_number; counts = one.counts; tree = group_typed n (prec_of n value) Assoc.Left (tree_of n (inner e)) (value_prec value h.typed) one.tree }
  layer_told (Rule-F.PrecRight value e) inside h k =
      let one = told_of e inside k in
      record { name = one.name; number = value_number value h.typed; lexical = zero_number; counts = one.counts; tree = group_typed n (prec_of n value) Assoc.Right (tree_of n (inner e)) (value_prec value h.typed) one.tree }
  layer_told (Rule-F.PrecDynamic value e) inside h k =
      let one = told_of e inside k in
      record { name = one.name; number = zero_number; lexical = zero_number; counts = one.counts; tree = dynamic_typed n value (tree_of n (inner e)) h.typed one.tree }

  rolled_told : (y : Rule-F Child) → IsTold (roll-Rule (map-Rule Child Rule inner y))
  rolled_told y inside h =
      let x = map-Rule Child Rule inner y in
      let top : Sight = record { tree = roll-Rule x; inside = inside } in
      let seen : below (roll-Rule x) inside ≡ below_step (map-Rule Rule SeenBelow seen_below x) inside
      = ap (λ (f : Bool → List Sight). f inside) (para-roll-Rule (Bool → List Sight) below_step x) in
      let here : IsReady x = subst (λ (z : Rule-F Rule). IsReady z) (out-roll-Rule x) (h top (head_in top (below (roll-Rule x) inside))) in
      let rest : AreReady (below_step (map-Rule Rule SeenBelow seen_below x) inside)
      = λ s w. h s (tail_in top s (below (roll-Rule x) inside) (subst (λ (all : List Sight). Contains all s) (sym seen) w)) in
      let by : LayerComes x = layer_told y inside here rest in
      record {
        name = subst (λ (c : Core). IsUtf8 (core_name c)) (sym (fold-roll-Rule Core core_step x)) by.name;
        number = subst IsNumber (sym (fold-roll-Rule ℤ under_step x)) by.number;
        lexical = subst (λ (z : Rule-F Rule). IsNumber (lexical_layer z)) (sym (out-roll-Rule x)) by.lexical;
        counts = subst (CountsTo most) (sym (fold-roll-Rule Re (re_step pattern) x)) by.counts;
        tree = subst (IsTypedTree n) (sym (para-roll-Rule Tree (tree_step n) x)) by.tree;
      }

  pub tree_comes : (t : Rule) (inside : Bool) → AreReady (sights_within t inside) → Comes t
  tree_comes t = ind-Rule IsTold (λ x y e. subst (λ (z : Rule-F Rule). IsTold (roll-Rule z)) e (rolled_told y)) t
