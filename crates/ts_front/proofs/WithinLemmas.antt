-- Where no text and no list in a rule tree is longer than a number, none is in what is seen of it.
use Rattle.std.proofs.Common.{arith, ◌≡◌, ◌∙◌, sym, ap, refl, subst, ℕ, ◌≤◌, ⊎_elim, Bool, true, false, ◌&&◌, List, [], ◌∷◌, map, length}
use Rattle.std.specs.List.{Contains, list_all}
use Rattle.std.proofs.lemmas.List.Elements.{Contains-append_cases}
use Rattle.ts_base.specs.Bytes.{Bytes}
use Rattle.ts_core.specs.declared.rule.Rule.{Rule}
use Rattle.ts_core.specs.declared.rule.Rule.TheBlock.{the_family, member-Rule}
use Rattle.ts_core.specs.declared.rule.Rule.TheFolds.{ind-Rule, map-Rule, claims, fold-roll-Rule}
use Rattle.ts_core.specs.declared.rule.Rule.TheOpen.{Rule-F}
use Rattle.ts_core.specs.declared.rule.Rule.TheViews.{roll-Rule, out-Rule, roll-out-Rule}
use Rattle.ts_rules.specs.Sights.{Sight, SeenBelow, seen_all, below, below_step, sights_within}
use Rattle.ts_grammar_json.specs.WellFormed.{is_true}
use Rattle.ts_grammar_json.specs.ShortParts.{is_within, has_name_within, within_step, has_parts_within}
use Rattle.ts_front.proofs.InsideLemmas.{seen_below, below_roll}
use Rattle.ts_front.proofs.MemberLemmas.{none_in, member_cases}
use denote.Hole.Holds.{Such}

left_true : (a b : Bool) → (a && b) ≡ true → a ≡ true
left_true true b e = refl
left_true false b e = e

right_true : (a b : Bool) → (a && b) ≡ true → b ≡ true
right_true true b e = e
right_true false b e = absurd cc

within_length : (n : ℕ) (text : Bytes) → is_within n text ≡ true → length text ≤ n
within_length n text e = grind arith

module _ (n : ℕ) where
  -- a tree that is so
  abbrev IsWithin : Rule → Type 0
  IsWithin t = has_parts_within n t ≡ true

  abbrev AllWithin : List Sight → Type 0
  AllWithin all = (s : Sight) → Contains all s → IsWithin s.tree

  abbrev IsTold : Rule → Type 0
  IsTold t = IsWithin t → (inside : Bool) → AllWithin (sights_within t inside)

  abbrev Child : Type 0
  Child = Such the_family (claims IsTold) member-Rule

  abbrev inner : Child → Rule
  inner child = child.0

  told_of : (e : Child) → IsWithin (inner e) → (inside : Bool) → AllWithin (sights_within (inner e) inside)
  told_of e h inside = let k : IsTold e.0 = e.1 in k h inside

  all_told : (es : List Child) → list_all is_true (map (has_parts_within n) (map inner es)) ≡ true → (inside : Bool) → AllWithin (seen_all (map seen_below (map inner es)) inside)
  all_told [] h inside = λ s w. absurd (none_in s w)
  all_told (e ∷ es) h inside = λ s w. ⊎_elim
      (λ here. told_of e (left_true (has_parts_within n (inner e)) (list_all is_true (map (has_parts_within n) (map inner es))) h) inside s here)
      (λ later. all_told es (right_true (has_parts_within n (inner e)) (list_all is_true (map (has_parts_within n) (map inner es))) h) inside s later)
      (Contains-append_cases (sights_within (inner e) inside) (seen_all (map seen_below (map inner es)) inside) s w)

  nothing : AllWithin []
  nothing s w = absurd (none_in s w)

  layer_told : (y : Rule-F Child) → within_step n (map-Rule Rule Bool (has_parts_within n) (map-Rule Child Rule inner y)) ≡ true → (inside : Bool)
      → AllWithin (below_step (map-Rule Rule SeenBelow seen_below (map-Rule Child Rule inner y)) inside)
  layer_told Rule-F.Blank h inside = nothing
  layer_told (Rule-F.Literal text) h inside = nothing
  layer_told (Rule-F.Pattern value ignore_case) h inside = nothing
  layer_told (Rule-F.Symbol name) h inside = nothing
  layer_told (Rule-F.Seq es) h inside = all_told es (right_true (is_within n (map (has_parts_within n) (map inner es))) (list_all is_true (map (has_parts_within n) (map inner es))) h) inside
  layer_told (Rule-F.Choice es) h inside = all_told es (right_true (is_within n (map (has_parts_within n) (map inner es))) (list_all is_true (map (has_parts_within n) (map inner es))) h) inside
  layer_told (Rule-F.Repeat e) h inside = told_of e h inside
  layer_told (Rule-F.Repeat1 e) h inside = told_of e h inside
  layer_told (Rule-F.Token e) h inside = told_of e h true
  layer_told (Rule-F.ImmediateToken e) h inside = told_of e h true
  layer_told (Rule-F.Field name e) h inside = told_of e (right_true (is_within n name) (has_parts_within n (inner e)) h) inside
  layer_told (Rule-F.Alias e named value) h inside = told_of e (right_true (is_within n value) (has_parts_within n (inner e)) h) inside
  layer_told (Rule-F.Prec value e) h inside = told_of e (right_true (has_name_within n value) (has_parts_within n (inner e)) h) inside
  layer_told (Rule-F.PrecLeft value e) h inside = told_of e (right_true (has_name_within n value) (has_parts_within n (inner e)) h) inside
  layer_told (Rule-F.PrecRight value e) h inside = told_of e (right_true (has_name_within n value) (has_parts_within n (inner e)) h) inside
  layer_told (Rule-F.PrecDynamic value e) h inside = told_of e h inside

  rolled_told : (y : Rule-F Child) → IsTold (roll-Rule (map-Rule Child Rule inner y))
  rolled_told y h inside s w =
      let x = map-Rule Child Rule inner y in
      let parts : within_step n (map-Rule Rule Bool (has_parts_within n) x) ≡ true = sym (fold-roll-Rule Bool (within_step n) x) ∙ h in
      ⊎_elim
      (λ e. subst (λ (z : Sight). IsWithin z.tree) (sym e) h)
      (λ later. layer_told y parts inside s (subst (λ (all : List Sight). Contains all s) (below_roll x inside) later))
      (member_cases (record { tree = roll-Rule x; inside = inside }) s (below (roll-Rule x) inside) w)

  pub seen_within : (t : Rule) → has_parts_within n t ≡ true → (inside : Bool) (s : Sight) → Contains (sights_within t inside) s → has_parts_within n s.tree ≡ true
  seen_within t = ind-Rule IsTold (λ x y e. subst (λ (z : Rule-F Rule). IsTold (roll-Rule z)) e (rolled_told y)) t

  -- a pattern that is a whole tree
  pub pattern_within : (t : Rule) (value : Bytes) (ignore_case : Bool) → out-Rule t ≡ Rule-F.Pattern value ignore_case → has_parts_within n t ≡ true → length value ≤ n
  pattern_within t value ignore_case e h =
      let is : roll-Rule (Rule-F.Pattern value ignore_case) ≡ t = ap roll-Rule (sym e) ∙ roll-out-Rule t in
      let parts : is_within n value ≡ true = sym (fold-roll-Rule Bool (within_step n) (Rule-F.Pattern value ignore_case)) ∙ ap (has_parts_within n) is ∙ h in
      within_length n value parts
