-- The productions of rules and repetitions are those of the grammar.
use Rattle.std.proofs.Common.{◌≡◌, ◌∙◌, sym, ap, subst, refl, ℕ, zero, suc, ◌+◌, ◌≤◌, max, ⊎_elim, List, [], ◌∷◌, ◌++◌, map, length, slice_get, Option, Some, None, option_map, append-nil, All, arith}
use Rattle.std.specs.List.{Contains, flat_map}
use Rattle.std.proofs.lemmas.List.{length-append}
use Rattle.std.proofs.lemmas.List.Elements.{All-weaker, All-contains_itself, All-head, Contains-append_left, Contains-append_right}
use Rattle.std.proofs.lemmas.Option.{slice_get_within, slice_get-map}
use Rattle.ts_core.specs.declared.flat.Alias.{Alias}
use Rattle.ts_core.specs.declared.flat.Production.{Production}
use Rattle.ts_core.specs.declared.flat.Step.{Step}
use Rattle.ts_core.specs.declared.rule.Rule.{Rule}
use Rattle.ts_rules.specs.declared.tree.Alternative.{Alternative}
use Rattle.ts_rules.specs.declared.tree.NumberedStep.{NumberedStep}
use Rattle.ts_rules.specs.declared.tree.Tree.{Tree}
use Rattle.ts_rules.specs.Alternatives.{Alternatives, longest_of}
use Rattle.ts_rules.specs.FirstSights.{AreFirstSights}
use Rattle.ts_rules.specs.Numbers.{Numbers, Lists, alts, tree_of}
use Rattle.ts_rules.specs.Productions.{AreProductions, AreRepeated, again, filled, production, flat_step, alias_of, symbol}
use Rattle.ts_rules.specs.Sights.{NamedRule}
use Rattle.ts_productions.specs.declared.sources.Sources.{Sources}
use Rattle.ts_productions.specs.declared.spread.Inlined.{Inlined}
use Rattle.ts_productions.specs.Flat.{aliased}
use Rattle.ts_productions.specs.Grammars.{rule_tree, AreSourcesOf}
use Rattle.ts_productions.specs.Limits.{AreFewSources, AllAreShort, EachBecomesFew, AreInlinedProductions, AreInlinedRepeated}
use Rattle.ts_productions.specs.Roots.{AreOrderedSources, whole, whole_all, repeated_all, roots_of}
use Rattle.ts_productions.specs.Sizes.{IsUsable, SizesHold, FullHold}
use Rattle.ts_productions.specs.Thin.{IsThin}
use Rattle.ts_productions.proofs.BecomeLemmas.{expand, expand_all}
use Rattle.ts_productions.proofs.FullLemmas.{usable_all}
use Rattle.ts_productions.proofs.GrammarLemmas.{become_of}
use Rattle.ts_productions.proofs.LimitLemmas.{table, table_full, within, gives, only}
use Rattle.ts_productions.proofs.MemberLemmas.{none_in, member_cases, flat_in, there}
use Rattle.ts_productions.proofs.SpreadLemmas.{map_flat}
use Rattle.ts_productions.proofs.ThinLemmas.{thin_sights}

-- ---- one of many

longest_append : (xs ys : Alternatives) → longest_of (xs ++ ys) ≡ max (longest_of xs) (longest_of ys)
longest_append [] ys = omega arith
longest_append (x ∷ xs) ys = let e = longest_append xs ys in omega (arith, e)

module _ (f : Alternative → Alternatives) where
  one_count : (xs : Alternatives) (x : Alternative) → Contains xs x → length (f x) ≤ length (flat_map f xs)
  one_count [] x w = absurd (none_in x w)
  one_count (y ∷ xs) x w =
      let size = length-append (f y) (flat_map f xs) in
      ⊎_elim
      (λ e. let same : length (f x) ≡ length (f y) = ap (λ (p : Alternative). length (f p)) e in omega (arith, size, same))
      (λ v. let rest = one_count xs x v in omega (arith, size, rest))
      (member_cases y x xs w)

  one_long : (xs : Alternatives) (x : Alternative) → Contains xs x → longest_of (f x) ≤ longest_of (flat_map f xs)
  one_long [] x w = absurd (none_in x w)
  one_long (y ∷ xs) x w =
      let size = longest_append (f y) (flat_map f xs) in
      ⊎_elim
      (λ e. let same : longest_of (f x) ≡ longest_of (f y) = ap (λ (p : Alternative). longest_of (f p)) e in omega (arith, size, same))
      (λ v. let rest = one_long xs x v in omega (arith, size, rest))
      (member_cases y x xs w)

-- ---- the alternatives of rules and repetitions

pub few_part : (s : Sources) (xs ys : Alternatives) → ((x : Alternative) → Contains ys x → Contains xs x) → EachBecomesFew s xs → EachBecomesFew s ys
few_part s xs ys part few x w = few x (part x w)

content_in : (number : ℕ) (trees : List Tree) (place : ℕ) (tree : Tree) (x : Alternative) → slice_get trees place ≡ Some tree
    → Contains (filled (whole tree) ++ again (number + place) (filled (whole tree))) x → Contains (repeated_all number trees) x
content_in number [] place tree x at w = absurd (let lt = slice_get_within {A = Tree} [] place tree at in let z : ⊥ = omega (arith, lt) in z)
content_in number (t ∷ trees) zero tree x at w =
    let is : tree ≡ t = (let e : Some t ≡ Some tree = at in cc) in
    let first : number + 0 ≡ number = omega arith in
    Contains-append_left (filled (whole t) ++ again number (filled (whole t))) (repeated_all (suc number) trees) x
    (subst (λ (k : ℕ). Contains (filled (whole t) ++ again k (filled (whole t))) x) first
    (subst (λ (u : Tree). Contains (filled (whole u) ++ again (number + 0) (filled (whole u))) x) is w))
content_in number (t ∷ trees) (suc place) tree x at w =
    let next : number + suc place ≡ suc number + place = omega arith in
    Contains-append_right (filled (whole t) ++ again number (filled (whole t))) (repeated_all (suc number) trees) x
    (content_in (suc number) trees place tree x at (subst (λ (k : ℕ). Contains (filled (whole tree) ++ again k (filled (whole tree))) x) next w))

module _ (s : Sources) (ordered : AreOrderedSources s) (fits : AreFewSources s × AllAreShort s) where
  roots_few : EachBecomesFew s (roots_of s)
  roots_few x w all become =
      let F = table s ordered in
      let is : all ≡ expand F x = only s ordered (x ∷ []) all become ∙ append-nil (expand F x) in
      let few = fits.0.1 in
      let short = fits.1.1 in
      let count : length few.0 ≡ length (expand_all F (roots_of s)) = ap (λ (ps : Alternatives). length ps) (only s ordered (roots_of s) few.0 few.1) in
      let long : longest_of short.0 ≡ longest_of (expand_all F (roots_of s)) = ap longest_of (only s ordered (roots_of s) short.0 short.1) in
      let a : length all ≡ length (expand F x) = ap (λ (ps : Alternatives). length ps) is in
      let b : longest_of all ≡ longest_of (expand F x) = ap longest_of is in
      let c = one_count (expand F) (roots_of s) x w in
      let d = one_long (expand F) (roots_of s) x w in
      (let e = few.2 in omega (arith, a, c, count, e), let e = short.2 in omega (arith, b, d, long, e))

  pub rule_few : (place : ℕ) (tree : Tree) → slice_get s.rules.now place ≡ Some tree → EachBecomesFew s (whole tree)
  rule_few place tree at = few_part s (roots_of s) (whole tree)
      (λ x w. Contains-append_left (whole_all s.rules.now) (repeated_all s.first_repetition s.contents.now) x (flat_in whole s.rules.now tree x (there s.rules.now place tree at) w)) roots_few

  content_few : (place : ℕ) (tree : Tree) → slice_get s.contents.now place ≡ Some tree → EachBecomesFew s (filled (whole tree) ++ again (s.first_repetition + place) (filled (whole tree)))
  content_few place tree at = few_part s (roots_of s) (filled (whole tree) ++ again (s.first_repetition + place) (filled (whole tree)))
      (λ x w. Contains-append_right (whole_all s.rules.now) (repeated_all s.first_repetition s.contents.now) x (content_in s.first_repetition s.contents.now place tree x at w)) roots_few

  pub once_few : (place : ℕ) (tree : Tree) → slice_get s.contents.now place ≡ Some tree → EachBecomesFew s (filled (whole tree))
  once_few place tree at = few_part s (filled (whole tree) ++ again (s.first_repetition + place) (filled (whole tree))) (filled (whole tree))
      (λ x w. Contains-append_left (filled (whole tree)) (again (s.first_repetition + place) (filled (whole tree))) x w) (content_few place tree at)

  pub again_few : (place number : ℕ) (tree : Tree) → slice_get s.contents.now place ≡ Some tree → number ≡ s.first_repetition + place → EachBecomesFew s (again number (filled (whole tree)))
  again_few place number tree at is = few_part s (filled (whole tree) ++ again (s.first_repetition + place) (filled (whole tree))) (again number (filled (whole tree)))
      (λ x w. Contains-append_right (filled (whole tree)) (again (s.first_repetition + place) (filled (whole tree))) x (subst (λ (k : ℕ). Contains (again k (filled (whole tree))) x) is w)) (content_few place tree at)

-- ---- what is built

pub usable_each : (s : Sources) (ordered : AreOrderedSources s) (t : Inlined) (xs : Alternatives) → t.first ≡ s.first_inlined → SizesHold s s.order.now t.sizes.now → FullHold s s.order.now t.full.now → EachBecomesFew s xs
    → All (IsUsable (table s ordered) t) xs
usable_each s ordered t xs first sizes full few = All-weaker (Contains xs) (IsUsable (table s ordered) t)
    (λ x w. All-head (IsUsable (table s ordered) t) x []
    (usable_all s (table s ordered) t (x ∷ []) first (table_full s ordered) ordered sizes full (within s ordered (x ∷ []) (few x w))))
    xs (All-contains_itself xs)

-- of fewer alternatives come the same productions
pub thin_productions : (s : Sources) → AreOrderedSources s → (xs ys : Alternatives) (found : List Production) → IsThin xs ys → AreInlinedProductions s ys found → AreInlinedProductions s xs found
thin_productions s ordered xs ys found thin have =
    let F = table s ordered in
    let made : Alternative → Production = production (aliased s.aliases.now) in
    record {
      all = expand_all F xs;
      become = gives s ordered xs;
      firsts =
          subst (λ (seen : List Production). AreFirstSights seen found) (sym (map_flat made (expand F) xs))
          (thin_sights (λ (p : Alternative). map made (expand F p)) xs ys found thin
          (subst (λ (seen : List Production). AreFirstSights seen found) (ap (map made) (only s ordered ys have.all have.become) ∙ map_flat made (expand F) ys) have.firsts));
    }

-- ---- by the grammar's numbers

map_same : {X Y : Type 0} (f g : X → Y) → ((x : X) → f x ≡ g x) → (xs : List X) → map f xs ≡ map g xs
map_same f g same [] = refl
map_same f g same (x ∷ xs) = ap (λ y. y ∷ map f xs) (same x) ∙ ap (λ ys. g x ∷ ys) (map_same f g same xs)

module _ (n : Numbers) (x : Lists) (s : Sources) (of : AreSourcesOf n x s) where
  alias_same : (o : Option ℕ) → alias_of (aliased s.aliases.now) o ≡ alias_of n o
  alias_same None = refl
  alias_same (Some k) = ap (λ (a : Alias). Some a) (sym (of.aliases k))

  step_same : (t : NumberedStep) → flat_step (aliased s.aliases.now) t ≡ flat_step n t
  step_same t = ap (λ (o : Option Alias). record { symbol = symbol t.symbol; prec = t.prec; assoc = t.assoc; alias = o; field = t.field }) (alias_same t.alias)

  production_same : (p : Alternative) → production (aliased s.aliases.now) p ≡ production n p
  production_same p = ap (λ (steps : List Step). record { dynamic = p.dynamic; steps = steps }) (map_same (flat_step (aliased s.aliases.now)) (flat_step n) step_same p.steps)

  productions_of : (xs : Alternatives) (found : List Production) → AreInlinedProductions s xs found → AreProductions n x xs found
  productions_of xs found have = record {
    all = have.all;
    become = become_of n x s of xs have.all have.become;
    firsts = subst (λ (seen : List Production). AreFirstSights seen found) (map_same (production (aliased s.aliases.now)) (production n) production_same have.all) have.firsts;
  }

  some_is : (t u : Tree) → Some t ≡ Some u → t ≡ u
  some_is t u e = cc

  pub rule_is : (place : ℕ) (tree : Tree) (rule : NamedRule) (found : List Production) → slice_get s.rules.now place ≡ Some tree → slice_get x.rules place ≡ Some rule
      → AreInlinedProductions s (whole tree) found → AreProductions n x (alts n rule.1) found
  rule_is place tree rule found at there_ have =
      let is : tree ≡ rule_tree n rule = some_is tree (rule_tree n rule)
      (sym at ∙ ap (λ (ts : List Tree). slice_get ts place) of.rules ∙ slice_get-map (rule_tree n) x.rules place ∙ ap (option_map (rule_tree n)) there_) in
      subst (λ (t : Tree). AreProductions n x (whole t) found) is (productions_of (whole tree) found have)

  pub content_is : (place number : ℕ) (tree : Tree) (content : Rule) (found : List Production) → slice_get s.contents.now place ≡ Some tree → slice_get x.contents place ≡ Some content → number ≡ s.first_repetition + place
      → AreInlinedRepeated s number tree found → AreRepeated n x content found
  content_is place number tree content found at there_ number_is have =
      let is : tree ≡ tree_of n content = some_is tree (tree_of n content)
      (sym at ∙ ap (λ (ts : List Tree). slice_get ts place) of.contents ∙ slice_get-map (tree_of n) x.contents place ∙ ap (option_map (tree_of n)) there_) in
      let same : number ≡ n.repetition content = number_is ∙ ap (λ (k : ℕ). k + place) of.repetitions_from ∙ sym (of.repetitions place content there_) in
      record {
        once = have.once;
        more = have.more;
        is = have.is;
        are_once = subst (λ (t : Tree). AreProductions n x (filled (whole t)) have.once) is (productions_of (filled (whole tree)) have.once have.are_once);
        are_more = subst (λ (t : Tree). AreProductions n x (again (n.repetition content) (filled (whole t))) have.more) is
            (subst (λ (k : ℕ). AreProductions n x (again k (filled (whole tree))) have.more) same (productions_of (again number (filled (whole tree))) have.more have.are_more));
      }
