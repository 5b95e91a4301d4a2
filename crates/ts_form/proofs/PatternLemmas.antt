-- The regular expression of a rule tree depends on the patterns in the tree alone.
use Rattle.std.proofs.Common.{◌≡◌, ◌∙◌, sym, ap, subst, refl, Bool, true, false, List, [], ◌∷◌, map}
use Rattle.std.specs.List.{Contains}
use Rattle.std.proofs.lemmas.List.Elements.{Contains-append_left, Contains-append_right}
use Rattle.std.specs.Prelude.{None}
use Rattle.ts_core.specs.declared.re.Re.{Re}
use Rattle.ts_core.specs.declared.re.Re.TheVariants as re
use Rattle.ts_core.specs.declared.rule.Rule.{Rule}
use Rattle.ts_core.specs.declared.rule.Rule.TheBlock.{the_family, member-Rule}
use Rattle.ts_core.specs.declared.rule.Rule.TheFolds.{ind-Rule, map-Rule, claims, para-roll-Rule, fold-roll-Rule}
use Rattle.ts_core.specs.declared.rule.Rule.TheOpen.{Rule-F}
use Rattle.ts_core.specs.declared.rule.Rule.TheViews.{roll-Rule, out-Rule, out-roll-Rule}
use Rattle.ts_rules.specs.Sights.{Sight, Source, SeenBelow, seen_all, below, below_step, sights, sights_within, pattern_layer}
use Rattle.ts_rules.specs.Tokens.{Patterns, cat_of, alt_of, tree_re, re_step}
use Rattle.ts_form.proofs.ListLemmas.{head_in, tail_in}
use denote.Hole.Holds.{Such}

module _ (p q : Patterns) where
  -- both read each pattern that is seen in the same way
  abbrev pub ReadAlike : List Sight → Type 0
  ReadAlike all = (s : Sight) → Contains all s → (source : Source) → Contains (pattern_layer (out-Rule s.tree)) source → p source.0 source.1 ≡ q source.0 source.1

  abbrev IsSame : Rule → Type 0
  IsSame t = (inside : Bool) → ReadAlike (sights_within t inside) → tree_re p t ≡ tree_re q t

  abbrev Child : Type 0
  Child = Such the_family (claims IsSame) member-Rule

  abbrev inner : Child → Rule
  inner child = child.0

  abbrev seen_below : Rule → SeenBelow
  seen_below r = (r, below r)

  same : (e : Child) (inside : Bool) → ReadAlike (sights_within (inner e) inside) → tree_re p (inner e) ≡ tree_re q (inner e)
  same e inside h = let k : IsSame e.0 = e.1 in k inside h

  all_same : (es : List Child) (inside : Bool) → ReadAlike (seen_all (map seen_below (map inner es)) inside) → map (tree_re p) (map inner es) ≡ map (tree_re q) (map inner es)
  all_same [] inside h = refl
  all_same (e ∷ es) inside h =
      ap (λ (r : Re). r ∷ map (tree_re p) (map inner es)) (same e inside (λ s w. h s (Contains-append_left (sights_within (inner e) inside) (seen_all (map seen_below (map inner es)) inside) s w)))
      ∙ ap (λ (rs : List Re). tree_re q (inner e) ∷ rs) (all_same es inside (λ s w. h s (Contains-append_right (sights_within (inner e) inside) (seen_all (map seen_below (map inner es)) inside) s w)))

  layer_same : (y : Rule-F Child) (inside : Bool) → ((source : Source) → Contains (pattern_layer (map-Rule Child Rule inner y)) source → p source.0 source.1 ≡ q source.0 source.1)
      → ReadAlike (below_step (map-Rule Rule SeenBelow seen_below (map-Rule Child Rule inner y)) inside)
      → re_step p (map-Rule Rule Re (tree_re p) (map-Rule Child Rule inner y)) ≡ re_step q (map-Rule Rule Re (tree_re q) (map-Rule Child Rule inner y))
  layer_same Rule-F.Blank inside h k = refl
  layer_same (Rule-F.Literal text) inside h k = refl
  layer_same (Rule-F.Pattern value ignore_case) inside h k = h (value, ignore_case) (head_in (value, ignore_case) [])
  layer_same (Rule-F.Symbol name) inside h k = refl
  layer_same (Rule-F.Seq es) inside h k = ap cat_of (all_same es inside k)
  layer_same (Rule-F.Choice es) inside h k = ap alt_of (all_same es inside k)
  layer_same (Rule-F.Repeat e) inside h k = ap (λ (r : Re). re.Repeat r 0 None) (same e inside k)
  layer_same (Rule-F.Repeat1 e) inside h k = ap (λ (r : Re). re.Repeat r 1 None) (same e inside k)
  layer_same (Rule-F.Token e) inside h k = same e true k
  layer_same (Rule-F.ImmediateToken e) inside h k = same e true k
  layer_same (Rule-F.Field name e) inside h k = same e inside k
  layer_same (Rule-F.Alias e named value) inside h k = same e inside k
  layer_same (Rule-F.Prec value e) inside h k = same e inside k
  layer_same (Rule-F.PrecLeft value e) inside h k = same e inside k
  layer_same (Rule-F.PrecRight value e) inside h k = same e inside k
  layer_same (Rule-F.PrecDynamic value e) inside h k = same e inside k

  rolled_same : (y : Rule-F Child) → IsSame (roll-Rule (map-Rule Child Rule inner y))
  rolled_same y inside h =
      let x = map-Rule Child Rule inner y in
      let top : Sight = record { tree = roll-Rule x; inside = inside } in
      let seen : below (roll-Rule x) inside ≡ below_step (map-Rule Rule SeenBelow seen_below x) inside
      = ap (λ (f : Bool → List Sight). f inside) (para-roll-Rule (Bool → List Sight) below_step x) in
      let here : (source : Source) → Contains (pattern_layer x) source → p source.0 source.1 ≡ q source.0 source.1
      = λ source w. h top (head_in top (below (roll-Rule x) inside)) source (subst (λ (z : Rule-F Rule). Contains (pattern_layer z) source) (sym (out-roll-Rule x)) w) in
      let rest : ReadAlike (below_step (map-Rule Rule SeenBelow seen_below x) inside)
      = λ s w. h s (tail_in top s (below (roll-Rule x) inside) (subst (λ (all : List Sight). Contains all s) (sym seen) w)) in
      fold-roll-Rule Re (re_step p) x ∙ layer_same y inside here rest ∙ sym (fold-roll-Rule Re (re_step q) x)

  pub same_re : (t : Rule) → ReadAlike (sights t) → tree_re p t ≡ tree_re q t
  same_re t h = ind-Rule IsSame (λ x y e. subst (λ (z : Rule-F Rule). IsSame (roll-Rule z)) e (rolled_same y)) t false h
