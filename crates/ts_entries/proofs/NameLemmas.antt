-- Extras that are SYMBOLs.
use Rattle.std.proofs.Common.{◌≡◌, ◌∙◌, sym, ap, refl, [], ◌∷◌, inl, Option, Some}
use Rattle.std.specs.Borrow.{Bor}
use Rattle.ts_base.specs.Bytes.{Bytes}
use Rattle.ts_core.specs.declared.rule.Rule.{Rule}
use Rattle.ts_core.specs.declared.rule.Rule.TheOpen.{Rule-F}
use Rattle.ts_core.specs.declared.rule.Rule.TheVariants as rule
use Rattle.ts_core.specs.declared.rule.Rule.TheVariants.{rolls-Symbol}
use Rattle.ts_core.specs.declared.rule.Rule.TheViews.{roll-Rule, out-Rule, roll-out-Rule}
use Rattle.ts_core.specs.declared.symbol.Symbol.{Symbol}
use Rattle.ts_rules.specs.Names.{told_option}
use Rattle.ts_rules.specs.Normal.{IsExtra}
use Rattle.ts_rules.specs.Numbers.{Numbers}
use Rattle.ts_rules.specs.Productions.{symbol}
use Rattle.ts_rules.specs.Sights.{symbol_layer}

-- ---- extras

symbol_from : (tree : Rule) (name : Bytes) → symbol_layer (out-Rule tree) ≡ name ∷ [] → tree ≡ rule.Symbol name
symbol_from tree name h = by (out-Rule tree) refl h
  where
    by : (layer : Rule-F Rule) → out-Rule tree ≡ layer → symbol_layer layer ≡ name ∷ [] → tree ≡ rule.Symbol name
    by (Rule-F.Symbol other) e f =
        let same : other ≡ name = cc in
        sym (roll-out-Rule tree) ∙ ap roll-Rule e ∙ rolls-Symbol other ∙ ap rule.Symbol same
    by Rule-F.Blank e f = let g : [] ≡ name ∷ [] = f in cc
    by (Rule-F.Literal a) e f = let g : [] ≡ name ∷ [] = f in cc
    by (Rule-F.Pattern a b) e f = let g : [] ≡ name ∷ [] = f in cc
    by (Rule-F.Seq a) e f = let g : [] ≡ name ∷ [] = f in cc
    by (Rule-F.Choice a) e f = let g : [] ≡ name ∷ [] = f in cc
    by (Rule-F.Repeat a) e f = let g : [] ≡ name ∷ [] = f in cc
    by (Rule-F.Repeat1 a) e f = let g : [] ≡ name ∷ [] = f in cc
    by (Rule-F.Token a) e f = let g : [] ≡ name ∷ [] = f in cc
    by (Rule-F.ImmediateToken a) e f = let g : [] ≡ name ∷ [] = f in cc
    by (Rule-F.Field a b) e f = let g : [] ≡ name ∷ [] = f in cc
    by (Rule-F.Alias a b c) e f = let g : [] ≡ name ∷ [] = f in cc
    by (Rule-F.Prec a b) e f = let g : [] ≡ name ∷ [] = f in cc
    by (Rule-F.PrecLeft a b) e f = let g : [] ≡ name ∷ [] = f in cc
    by (Rule-F.PrecRight a b) e f = let g : [] ≡ name ∷ [] = f in cc
    by (Rule-F.PrecDynamic a b) e f = let g : [] ≡ name ∷ [] = f in cc

pub extra_named : (n : Numbers) (tree : Rule) (found : Option (Bor Bytes)) (name : Bor Bytes) (s : Symbol) → told_option found ≡ symbol_layer (out-Rule tree) → found ≡ Some name
    → s ≡ symbol (n.rule name.now) → IsExtra n tree s
extra_named n tree found name s is some made = inl (name.now, symbol_from tree name.now (sym is ∙ ap told_option some), made)
