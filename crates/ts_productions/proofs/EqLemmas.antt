-- Equal productions are the same.
use Rattle.std.proofs.Common.{◌≡◌, ◌==◌, ◌∙◌, ap, refl, Bool, true, false, ℕ, List, Option, Some, None}
use Rattle.std.specs.Bool.{Decides}
use Rattle.std.proofs.lemmas.Bool.Decides.{Decides-and, Decides-like, Decides-eqb, Decides-int_eq}
use Rattle.std.proofs.lemmas.Slice.Eq.{slice_eq-Decides, bytes_eq-Decides}
use Rattle.std.specs.Cmp.{booleans_Decides}
use Rattle.std.specs.Option.{option_eq}
use lib.IntN.{ℤ}
use Rattle.ts_core.specs.declared.flat.Alias.{Alias}
use Rattle.ts_core.specs.declared.flat.Assoc.{Assoc}
use Rattle.ts_core.specs.declared.flat.Assoc.TheVariants as assoc
use Rattle.ts_core.specs.declared.flat.Prec.{Prec}
use Rattle.ts_core.specs.declared.flat.Prec.TheVariants as prec
use Rattle.ts_core.specs.declared.flat.Production.{Production}
use Rattle.ts_core.specs.declared.flat.Step.{Step}
use Rattle.ts_core.specs.contracts.flat.ProductionPartialEq.TheImpl as production
use Rattle.ts_core.specs.contracts.flat.StepPartialEq.TheImpl as step
use Rattle.ts_core.specs.contracts.flat.AliasPartialEq.TheImpl as alias
use Rattle.ts_core.specs.contracts.flat.PrecPartialEq.TheImpl as prec_eq
use Rattle.ts_core.specs.contracts.flat.AssocPartialEq.TheImpl as assoc_eq

false_true : {X : Type 0} → false ≡ true → X
false_true e = absurd (let f : false ≡ true = e in cc)

assoc_decides : (a b : Assoc) → Decides ((assoc_eq.eq-value).it a b) (a ≡ b)
assoc_decides assoc.Absent assoc.Absent = (λ e. refl, λ e. refl)
assoc_decides assoc.Absent assoc.Left = (λ e. false_true e, λ e. absurd (let f : assoc.Absent ≡ assoc.Left = e in cc))
assoc_decides assoc.Absent assoc.Right = (λ e. false_true e, λ e. absurd (let f : assoc.Absent ≡ assoc.Right = e in cc))
assoc_decides assoc.Left assoc.Absent = (λ e. false_true e, λ e. absurd (let f : assoc.Left ≡ assoc.Absent = e in cc))
assoc_decides assoc.Left assoc.Left = (λ e. refl, λ e. refl)
assoc_decides assoc.Left assoc.Right = (λ e. false_true e, λ e. absurd (let f : assoc.Left ≡ assoc.Right = e in cc))
assoc_decides assoc.Right assoc.Absent = (λ e. false_true e, λ e. absurd (let f : assoc.Right ≡ assoc.Absent = e in cc))
assoc_decides assoc.Right assoc.Left = (λ e. false_true e, λ e. absurd (let f : assoc.Right ≡ assoc.Left = e in cc))
assoc_decides assoc.Right assoc.Right = (λ e. refl, λ e. refl)

number_same : (v w : ℤ) → prec.Number v ≡ prec.Number w → v ≡ w
number_same v w e = cc

name_same : (v w : ℕ) → prec.Name v ≡ prec.Name w → v ≡ w
name_same v w e = cc

some_same : {X : Type 0} (v w : X) → Some v ≡ Some w → v ≡ w
some_same v w e = cc

prec_decides : (a b : Prec) → Decides ((prec_eq.eq-value).it a b) (a ≡ b)
prec_decides prec.Absent prec.Absent = (λ e. refl, λ e. refl)
prec_decides prec.Absent (prec.Number w) = (λ e. false_true e, λ e. absurd (let f : prec.Absent ≡ prec.Number w = e in cc))
prec_decides prec.Absent (prec.Name w) = (λ e. false_true e, λ e. absurd (let f : prec.Absent ≡ prec.Name w = e in cc))
prec_decides (prec.Number v) prec.Absent = (λ e. false_true e, λ e. absurd (let f : prec.Number v ≡ prec.Absent = e in cc))
prec_decides (prec.Number v) (prec.Number w) = (λ e. ap prec.Number ((Decides-int_eq v w).0 e), λ e. (Decides-int_eq v w).1 (number_same v w e))
prec_decides (prec.Number v) (prec.Name w) = (λ e. false_true e, λ e. absurd (let f : prec.Number v ≡ prec.Name w = e in cc))
prec_decides (prec.Name v) prec.Absent = (λ e. false_true e, λ e. absurd (let f : prec.Name v ≡ prec.Absent = e in cc))
prec_decides (prec.Name v) (prec.Number w) = (λ e. false_true e, λ e. absurd (let f : prec.Name v ≡ prec.Number w = e in cc))
prec_decides (prec.Name v) (prec.Name w) = (λ e. ap prec.Name ((Decides-eqb v w).0 e), λ e. (Decides-eqb v w).1 (name_same v w e))

alias_decides : (a b : Alias) → Decides ((alias.eq-value).it a b) (a ≡ b)
alias_decides a b = Decides-like ((alias.eq-value).it a b)
    (λ w. ap (λ (x : List ℕ). made x a.named) w.0 ∙ ap (λ (x : Bool). made b.name x) w.1)
    (λ e. (ap (λ (x : Alias). x.name) e, ap (λ (x : Alias). x.named) e))
    (Decides-and _ _ (bytes_eq-Decides a.name b.name) (booleans_Decides a.named b.named))
  where
    made : List ℕ → Bool → Alias
    made name named = record { name = name; named = named }

none_some : {X : Type 0} (b : X) → None ≡ Some b → ⊥
none_some b e = cc

some_none : {X : Type 0} (a : X) → Some a ≡ None → ⊥
some_none a e = cc

option_decides : {X : Type 0} (E : X → X → Bool) → ((a b : X) → Decides (E a b) (a ≡ b)) → (x y : Option X) → Decides (option_eq E x y) (x ≡ y)
option_decides E decide None None = (λ h. refl, λ h. refl)
option_decides E decide None (Some b) = (λ h. false_true h, λ h. absurd (none_some b h))
option_decides E decide (Some a) None = (λ h. false_true h, λ h. absurd (some_none a h))
option_decides E decide (Some a) (Some b) = (λ h. ap (λ x. Some x) ((decide a b).0 h), λ h. (decide a b).1 (some_same a b h))

abbrev made_step : ℕ → Prec → Assoc → Option Alias → Option ℕ → Step
made_step symbol p a al f = record { symbol = record { 0 = symbol }; prec = p; assoc = a; alias = al; field = f }

step_decides : (a b : Step) → Decides ((step.eq-value).it a b) (a ≡ b)
step_decides a b = Decides-like ((step.eq-value).it a b)
    (λ w. ap (λ (x : ℕ). made_step x a.prec a.assoc a.alias a.field) w.0
    ∙ ap (λ (x : Prec). made_step b.symbol.0 x a.assoc a.alias a.field) w.1.0
    ∙ ap (λ (x : Assoc). made_step b.symbol.0 b.prec x a.alias a.field) w.1.1.0
    ∙ ap (λ (x : Option Alias). made_step b.symbol.0 b.prec b.assoc x a.field) w.1.1.1.0
    ∙ ap (λ (x : Option ℕ). made_step b.symbol.0 b.prec b.assoc b.alias x) w.1.1.1.1)
    (λ e. (ap (λ (x : Step). x.symbol.0) e, (ap (λ (x : Step). x.prec) e, (ap (λ (x : Step). x.assoc) e, (ap (λ (x : Step). x.alias) e, ap (λ (x : Step). x.field) e)))))
    (Decides-and _ _ (Decides-eqb a.symbol.0 b.symbol.0)
    (Decides-and _ _ (prec_decides a.prec b.prec)
    (Decides-and _ _ (assoc_decides a.assoc b.assoc)
    (Decides-and _ _ (option_decides (alias.eq-value).it alias_decides a.alias b.alias)
    (option_decides (λ (x y : ℕ). x == y) Decides-eqb a.field b.field)))))

abbrev made_production : ℤ → List Step → Production
made_production d steps = record { dynamic = d; steps = steps }

pub production_decides : (a b : Production) → Decides ((production.eq-value).it a b) (a ≡ b)
production_decides a b = Decides-like ((production.eq-value).it a b)
    (λ w. ap (λ (x : ℤ). made_production x a.steps) w.0 ∙ ap (λ (x : List Step). made_production b.dynamic x) w.1)
    (λ e. (ap (λ (x : Production). x.dynamic) e, ap (λ (x : Production). x.steps) e))
    (Decides-and _ _ (Decides-int_eq a.dynamic b.dynamic) (slice_eq-Decides step_decides a.steps b.steps _ refl))
