-- Steps that are inserted into steps that are inserted themselves.
use Rattle.std.proofs.Common.{◌≡◌, ◌∙◌, ap, refl, ℕ, Option, Some, None}
use Rattle.ts_core.specs.declared.flat.Assoc.{Assoc}
use Rattle.ts_core.specs.declared.flat.Assoc.TheVariants as assoc
use Rattle.ts_core.specs.declared.flat.Prec.{Prec}
use Rattle.ts_core.specs.declared.flat.Prec.TheVariants as prec
use Rattle.ts_rules.specs.declared.tree.NumberedStep.{NumberedStep}
use Rattle.ts_rules.specs.Alternatives.{inner_assoc}
use Rattle.ts_rules.specs.Productions.{or_else, prec_or, marked_by, ended_by}
use Rattle.ts_productions.specs.Expansions.{last_by}

or_else_assoc : {X : Type 0} (a b c : Option X) → or_else (or_else a b) c ≡ or_else a (or_else b c)
or_else_assoc None b c = refl
or_else_assoc (Some x) b c = refl

prec_or_assoc : (a b c : Prec) → prec_or a (prec_or b c) ≡ prec_or (prec_or a b) c
prec_or_assoc prec.Absent b c = refl
prec_or_assoc (prec.Number v) b c = refl
prec_or_assoc (prec.Name v) b c = refl

inner_assoc_assoc : (a b c : Assoc) → inner_assoc a (inner_assoc b c) ≡ inner_assoc (inner_assoc a b) c
inner_assoc_assoc assoc.Absent b c = refl
inner_assoc_assoc assoc.Left b c = refl
inner_assoc_assoc assoc.Right b c = refl

abbrev made : ℕ → Prec → Assoc → Option ℕ → Option ℕ → NumberedStep
made symbol p a alias field = record { symbol = symbol; prec = p; assoc = a; alias = alias; field = field }

pub marked_twice : (s t v : NumberedStep) → marked_by (marked_by s t) v ≡ marked_by s (marked_by t v)
marked_twice s t v =
    ap (λ (x : Option ℕ). made v.symbol v.prec v.assoc x (or_else (or_else s.field t.field) v.field)) (or_else_assoc s.alias t.alias v.alias)
    ∙ ap (λ (x : Option ℕ). made v.symbol v.prec v.assoc (or_else s.alias (or_else t.alias v.alias)) x) (or_else_assoc s.field t.field v.field)

-- the marks of the last inserted step are those of any
pub marked_last : (s t v : NumberedStep) → marked_by (last_by s t) v ≡ marked_by s (marked_by t v)
marked_last s t v = marked_twice s t v

pub last_marked : (s t v : NumberedStep) → last_by (marked_by s t) v ≡ marked_by s (last_by t v)
last_marked s t v = ap (ended_by t) (marked_twice s t v)

pub last_twice : (s t v : NumberedStep) → last_by (last_by s t) v ≡ last_by s (last_by t v)
last_twice s t v =
    ap (ended_by (last_by s t)) (marked_twice s t v)
    ∙ ap (λ (x : Prec). made v.symbol x (inner_assoc v.assoc (inner_assoc t.assoc s.assoc)) (or_else s.alias (or_else t.alias v.alias)) (or_else s.field (or_else t.field v.field))) (prec_or_assoc v.prec t.prec s.prec)
    ∙ ap (λ (x : Assoc). made v.symbol (prec_or (prec_or v.prec t.prec) s.prec) x (or_else s.alias (or_else t.alias v.alias)) (or_else s.field (or_else t.field v.field))) (inner_assoc_assoc v.assoc t.assoc s.assoc)
