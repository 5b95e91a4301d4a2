-- The names that a grammar uses, by their kinds, and what stands in its walk.
use Rattle.std.proofs.Common.{sym, subst, List, ◌∷◌, ◌++◌}
use Rattle.std.specs.List.{Contains}
use Rattle.std.proofs.lemmas.List.Elements.{Contains-append_left, Contains-append_right}
use Rattle.ts_base.specs.Bytes.{Bytes}
use Rattle.ts_core.specs.declared.rule.Grammar.{Grammar}
use Rattle.ts_rules.specs.Causes.{names_used, listed, merged}
use Rattle.ts_rules.specs.FirstSights.{Once}
use Rattle.ts_rules.specs.Sights.{Sight, rule_sights, extra_sights, walk, symbols_in, ranked_rules}
use Rattle.ts_normalise.proofs.ListLemmas.{head_in}

pub once_in : {X : Type 0} (all : List X) (x : X) → Once all x → Contains all x
once_in {X = X} all x o = subst (λ (xs : List X). Contains xs x) (sym o.is) (Contains-append_right o.before (x ∷ o.after) x (head_in x o.after))

pub walk_has : (g : Grammar) (s : Sight) → Contains (rule_sights g) s → Contains (walk g) s
walk_has g s w = Contains-append_left (rule_sights g) (extra_sights g) s w

-- the names that a grammar uses, by their kinds
abbrev used_in_rules : Grammar → List Bytes
used_in_rules g = symbols_in (walk g) ++ listed g.word

pub symbol_used : (g : Grammar) (name : Bytes) → Contains (symbols_in (walk g)) name → Contains (names_used g) name
symbol_used g name w =
    Contains-append_left (used_in_rules g ++ merged g.conflicts ++ ranked_rules g) g.supertypes name
    (Contains-append_left (used_in_rules g ++ merged g.conflicts) (ranked_rules g) name
    (Contains-append_left (used_in_rules g) (merged g.conflicts) name
    (Contains-append_left (symbols_in (walk g)) (listed g.word) name w)))

pub conflict_used : (g : Grammar) (name : Bytes) → Contains (merged g.conflicts) name → Contains (names_used g) name
conflict_used g name w =
    Contains-append_left (used_in_rules g ++ merged g.conflicts ++ ranked_rules g) g.supertypes name
    (Contains-append_left (used_in_rules g ++ merged g.conflicts) (ranked_rules g) name
    (Contains-append_right (used_in_rules g) (merged g.conflicts) name w))

pub ranked_used : (g : Grammar) (name : Bytes) → Contains (ranked_rules g) name → Contains (names_used g) name
ranked_used g name w =
    Contains-append_left (used_in_rules g ++ merged g.conflicts ++ ranked_rules g) g.supertypes name
    (Contains-append_right (used_in_rules g ++ merged g.conflicts) (ranked_rules g) name w)

pub supertype_used : (g : Grammar) (name : Bytes) → Contains g.supertypes name → Contains (names_used g) name
supertype_used g name w = Contains-append_right (used_in_rules g ++ merged g.conflicts ++ ranked_rules g) g.supertypes name w
