-- The laws of steps, productions and rules.
use Rattle.std.proofs.Common.{◌≡◌, refl, sym, ◌∙◌, ap, subst, ℕ, zero, suc, ℤ, ◌^◌, ◌<◌, ◌≤◌, ◌-◌, Bool, true, false, nat_lt, List, [], ◌∷◌, ◌++◌, length, drop, Option, Some, None, Ok, is_some, arith}
use Rattle.std.specs.Int.{w32}
use Rattle.std.specs.Int.RustNames.{FitsSigned}
use Rattle.std.specs.List.{AllByRecursion}
use Rattle.std.proofs.lemmas.List.{append-nil}
use Rattle.ts_base.specs.Bytes.{Bytes}
use Rattle.ts_core.specs.declared.flat.Alias.{Alias}
use Rattle.ts_core.specs.declared.flat.Assoc.{Assoc}
use Rattle.ts_core.specs.declared.flat.Entry.{Entry}
use Rattle.ts_core.specs.declared.flat.FlatRule.{FlatRule}
use Rattle.ts_core.specs.declared.flat.Prec.{Prec}
use Rattle.ts_core.specs.declared.flat.Production.{Production}
use Rattle.ts_core.specs.declared.flat.Step.{Step}
use Rattle.ts_core.specs.declared.symbol.Kind.{Kind}
use Rattle.ts_core.specs.declared.symbol.Symbol.{Symbol}
use Rattle.spec_tables.specs.Fit.{IfThere, most_steps}
use Rattle.ts_langfile.specs.declared.known.Known.{Known}
use Rattle.ts_langfile.specs.Reader.{Reader, tested}
use Rattle.ts_langfile.specs.Spelling.{text, kind, number16, signed32, prec, assoc, alias, optional, symbol, listed, step, production, rule, entry}
use Rattle.ts_langfile.specs.Parts.{number16_at, signed32_at, may_name, prec_at, prec_by, field_at, step_at, production_at, rule_at, entry_at, entry_by}
use Rattle.ts_langfile.specs.Right.{IsShortText, IsBetween, IsName, RightPrec, RightStep, RightProduction, RightRule, RightEntry}
use Rattle.ts_langfile.proofs.LawLemmas.{Law, then_law, as_law, spelled_law, alone_law, made_law, give_law, tested_law, times_law, number16_law}
use Rattle.ts_langfile.proofs.PartLaws.{text_law, count_law, tagged_law, kind_law, assoc_law, optional_law, listed_law, symbol_law, alias_law}
use Rattle.ts_langfile.proofs.SignedLaws.{signed_law}

pub name_law : (count : Option ℕ) → Law (tested number16_at (may_name count)) number16 (IsName count)
name_law count = tested_law (may_name count) number16_law

abbrev PrecBy : Known → ℕ → Prec → Type 0
PrecBy known zero p = p ≡ Prec.Absent
PrecBy known (suc zero) p = (value : ℤ) × (p ≡ Prec.Number value) × FitsSigned w32 value
PrecBy known (suc (suc tag)) p = (name : ℕ) × (p ≡ Prec.Name name) × IsName known.precs name

prec_by_law : (known : Known) (tag : ℕ) → tag ≤ 2 → Law (prec_by known tag) (λ p. drop 1 (prec p)) (PrecBy known tag)
prec_by_law known zero le = spelled_law (give_law Prec.Absent) (λ p right. ap (λ (p : Prec). drop 1 (prec p)) (sym right))
prec_by_law known (suc zero) le = made_law Prec.Number (λ p. drop 1 (prec p)) signed_law (λ value right. refl)
prec_by_law known (suc (suc tag)) le = made_law Prec.Name (λ p. drop 1 (prec p)) (name_law known.precs) (λ name right. refl)

prec_begins : (known : Known) (tag : ℕ) (p : Prec) → tag ≤ 2 → PrecBy known tag p → prec p ≡ tag ∷ drop 1 (prec p)
prec_begins known zero p le right = rw right refl
prec_begins known (suc zero) p le right = rw right.1 refl
prec_begins known (suc (suc zero)) p le right = rw right.1 refl
prec_begins known (suc (suc (suc tag))) p le right = absurd (omega arith)

prec_right : (known : Known) (tag : ℕ) (p : Prec) → PrecBy known tag p → RightPrec known p
prec_right known zero p right = subst (RightPrec known) (sym right) tt
prec_right known (suc zero) p right = subst (RightPrec known) (sym right.1) right.2
prec_right known (suc (suc tag)) p right = subst (RightPrec known) (sym right.1) right.2

prec_tag : (known : Known) (p : Prec) → RightPrec known p → (tag : ℕ) × (tag ≤ 2) × PrecBy known tag p
prec_tag known Prec.Absent right = (0, omega arith, refl)
prec_tag known (Prec.Number value) right = (1, omega arith, (value, refl, right))
prec_tag known (Prec.Name name) right = (2, omega arith, (name, refl, right))

pub prec_law : (known : Known) → Law (prec_at known) prec (RightPrec known)
unfolding prec_at
prec_law known = as_law (tagged_law 2 (prec_by_law known) (prec_begins known)) (λ p right. prec_right known right.0 p right.2) (λ p right. prec_tag known p right)

pub field_law : (known : Known) → Law (field_at known) (optional number16) (IfThere (IsName known.fields))
unfolding field_at
field_law known = optional_law (name_law known.fields)

abbrev step_of : Symbol → Prec → Assoc → Option Alias → Option ℕ → Step
step_of symbol prec assoc alias field = record { symbol = symbol; prec = prec; assoc = assoc; alias = alias; field = field }

pub step_law : (symbols : ℕ) (known : Known) → Law (step_at symbols known) step (RightStep symbols known)
unfolding step_at
step_law symbols known = as_law
    (then_law (λ (s : Step). s.symbol) (symbol_law 1 symbols) (λ symbol r1. then_law (λ (s : Step). s.prec) (prec_law known) (λ prec r2. then_law (λ (s : Step). s.assoc) assoc_law (λ assoc r3.
    then_law (λ (s : Step). s.alias) (optional_law alias_law) (λ alias r4. then_law (λ (s : Step). s.field) (field_law known) (λ field r5. give_law (step_of symbol prec assoc alias field))
    (λ field s right. ap (λ (s : Step). s.field) right)) (λ alias s right. ap (λ (s : Step). s.alias) right.1)) (λ assoc s right. ap (λ (s : Step). s.assoc) right.1.1)) (λ prec s right. ap (λ (s : Step). s.prec) right.1.1.1)) (λ symbol s right. ap (λ (s : Step). s.symbol) right.1.1.1.1))
    (λ s right. record { symbol = right.0; prec = right.1.0; alias = right.1.1.1.0; field = right.1.1.1.1.0 })
    (λ s right. (right.symbol, (right.prec, (tt, (right.alias, (right.field, refl))))))

pub production_law : (symbols : ℕ) (known : Known) → Law (production_at symbols known) production (RightProduction symbols known)
unfolding production_at
production_law symbols known = spelled_law (as_law
    (then_law (λ (p : Production). p.dynamic) signed_law (λ dynamic r1. then_law (λ (p : Production). length p.steps) (count_law most_steps) (λ count r2. then_law (λ (p : Production). p.steps) (times_law (step_law symbols known) count)
    (λ steps r3. give_law (record { dynamic = dynamic; steps = steps })) (λ steps p right. ap (λ (p : Production). p.steps) right)) (λ count p right. right.0.0)) (λ dynamic p right. ap (λ (p : Production). p.dynamic) right.1.1))
    (λ p right. (right.0, right.1.0.1, right.1.1.0.1))
    (λ p right. (right.0, ((omega (arith, right.1), right.1), ((refl, right.2), refl)))))
    (λ p right. ap (λ (b : Bytes). signed32 p.dynamic ++ b) (sym (append-nil (listed step p.steps))))

abbrev rule_of : Bytes → Kind → Symbol → List Production → FlatRule
rule_of name kind owner productions = record { name = name; kind = kind; owner = owner; productions = productions }

pub rule_law : (symbols : ℕ) (known : Known) (left : ℕ) → Law (rule_at symbols known left) rule (RightRule symbols known left)
unfolding rule_at
rule_law symbols known left = spelled_law (as_law
    (then_law (λ (r : FlatRule). r.name) text_law (λ name r1. then_law (λ (r : FlatRule). r.kind) kind_law (λ kind r2. then_law (λ (r : FlatRule). r.owner) (symbol_law 0 symbols) (λ owner r3.
    then_law (λ (r : FlatRule). length r.productions) (count_law left) (λ count r4. then_law (λ (r : FlatRule). r.productions) (times_law (production_law symbols known) count) (λ productions r5. give_law (rule_of name kind owner productions))
    (λ productions r right. ap (λ (r : FlatRule). r.productions) right)) (λ count r right. right.0.0)) (λ owner r right. ap (λ (r : FlatRule). r.owner) right.1.1)) (λ kind r right. ap (λ (r : FlatRule). r.kind) right.1.1.1)) (λ name r right. ap (λ (r : FlatRule). r.name) right.1.1.1.1))
    (λ r right. record { name = right.0; owner = right.1.1.0; few = right.1.1.1.0; productions = right.1.1.1.1.0.1 })
    (λ r right. (right.name, (tt, (right.owner, (right.few, ((refl, right.productions), refl)))))))
    (λ r right. ap (λ (b : Bytes). text r.name ++ (kind r.kind ++ (symbol r.owner ++ b))) (sym (append-nil (listed production r.productions))))

-- ---- entries

abbrev EntryBy : ℕ → ℕ → ℕ → Entry → Type 0
EntryBy symbols precs zero e = (name : ℕ) × (e ≡ Entry.Name name) × IsName (Some precs) name
EntryBy symbols precs (suc tag) e = (s : Symbol) × (e ≡ Entry.Rule s) × IsBetween 0 symbols s

entry_by_law : (symbols precs tag : ℕ) → tag ≤ 1 → Law (entry_by symbols precs tag) (λ e. drop 1 (entry e)) (EntryBy symbols precs tag)
entry_by_law symbols precs zero le = made_law Entry.Name (λ e. drop 1 (entry e)) (name_law (Some precs)) (λ name right. refl)
entry_by_law symbols precs (suc tag) le = made_law Entry.Rule (λ e. drop 1 (entry e)) (symbol_law 0 symbols) (λ s right. refl)

entry_begins : (symbols precs tag : ℕ) (e : Entry) → tag ≤ 1 → EntryBy symbols precs tag e → entry e ≡ tag ∷ drop 1 (entry e)
entry_begins symbols precs zero e le right = rw right.1 refl
entry_begins symbols precs (suc zero) e le right = rw right.1 refl
entry_begins symbols precs (suc (suc tag)) e le right = absurd (omega arith)

entry_right : (symbols precs tag : ℕ) (e : Entry) → EntryBy symbols precs tag e → RightEntry symbols precs e
entry_right symbols precs zero e right = subst (RightEntry symbols precs) (sym right.1) right.2
entry_right symbols precs (suc tag) e right = subst (RightEntry symbols precs) (sym right.1) right.2

entry_tag : (symbols precs : ℕ) (e : Entry) → RightEntry symbols precs e → (tag : ℕ) × (tag ≤ 1) × EntryBy symbols precs tag e
entry_tag symbols precs (Entry.Name name) right = (0, omega arith, (name, refl, right))
entry_tag symbols precs (Entry.Rule s) right = (1, omega arith, (s, refl, right))

pub entry_law : (symbols precs : ℕ) → Law (entry_at symbols precs) entry (RightEntry symbols precs)
unfolding entry_at
entry_law symbols precs = as_law (tagged_law 1 (entry_by_law symbols precs) (entry_begins symbols precs)) (λ e right. entry_right symbols precs right.0 e right.2) (λ e right. entry_tag symbols precs e right)
