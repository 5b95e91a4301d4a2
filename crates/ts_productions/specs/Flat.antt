-- Productions of the normal form, by a list of aliases.
use Rattle.std.specs.Prelude.{ℕ, false, List, [], ◌∷◌, map, get_or, suc}
use Rattle.ts_core.specs.declared.flat.Alias.{Alias}
use Rattle.ts_core.specs.declared.flat.Production.{Production}
use Rattle.ts_rules.specs.declared.tree.Tree.{Tree}
use Rattle.ts_rules.specs.Alternatives.{Alternatives}
use Rattle.ts_rules.specs.FirstSights.{AreFirstSights}
use Rattle.ts_rules.specs.Numbers.{Numbers, unnumbered}
use Rattle.ts_rules.specs.Productions.{production, filled, again}
use Rattle.ts_rules.specs.Sights.{alias}
use Rattle.ts_productions.specs.declared.expansion.Expansion.{Expansion}
use Rattle.ts_productions.specs.Expansions.{Table, plain, spread_all}
use Rattle.ts_productions.specs.Roots.{whole}

-- the alias of a place; a place past the list has the empty alias
abbrev pub alias_in : List Alias → ℕ → Alias
alias_in aliases place = get_or aliases place (alias [] false)

-- ---- how productions are made flat

-- numbers that are all 0, and the aliases of the list in place of theirs
abbrev pub aliased : List Alias → Numbers
aliased aliases = record unnumbered { alias_at = alias_in aliases }

-- the expansion as a production, with the aliases of the list
abbrev pub flat : List Alias → Expansion → Production
flat aliases e = production (aliased aliases) (plain e)

-- the productions that alternatives become
abbrev pub AreExpanded : Table → List Alias → Alternatives → List Production → Type 0
AreExpanded F aliases xs found = AreFirstSights (map (flat aliases) (spread_all F xs)) found

-- what the contents of repetitions become, from a repetition's number on
abbrev pub parts_from : ℕ → List Tree → List (Alternatives × Alternatives)
parts_from number [] = []
parts_from number (tree ∷ rest) = (filled (whole tree), again number (filled (whole tree)))
    ∷ parts_from (suc number) rest
