-- One expression that is built, or is not.
use Rattle.std.proofs.Common.{◌≡◌, ◌≢◌, ◌∙◌, sym, ap, subst, ◌≤◌, [], ◌∷◌, ◌++◌, Some}
use Rattle.std.specs.Prelude.{map, Option, None, Result, Ok, Err}
use Rattle.ts_base.specs.Bytes.{Bytes}
use Rattle.regex.specs.declared.string.regex.Regex.{Regex}
use Rattle.ts_query_tree.specs.declared.tree.Written.{Written}
use Rattle.ts_query_names.specs.declared.form.Form.{Form as Lent}
use Rattle.ts_query_names.specs.Asking.{form_pattern}
use Rattle.ts_query_names.specs.Checks.{pattern}
use Rattle.ts_query_names.specs.LentForms.{form_told}
use Rattle.ts_query_names.specs.Numbers.{Names}
use Rattle.ts_query_syntax.specs.declared.fault.QueryFault.{QueryFault}
use Rattle.ts_query_syntax.specs.declared.read_query.Asked.{Asked}
use Rattle.ts_query_syntax.specs.Queries.{AsksFor}
use Rattle.ts_query_syntax.proofs.JudgingLemmas.{runs_none}
use Rattle.ts_query_syntax.specs.declared.fault.QueryFault.TheVariants as fault
use Rattle.ts_query_syntax.specs.declared.patterns.BuildFault.{BuildFault}
use Rattle.ts_query_syntax.specs.declared.patterns.BuildFault.TheVariants.{Refused, Memory}
use Rattle.ts_query_syntax.specs.Refusals.{HasRisen}
use Rattle.ts_query_syntax.specs.Judging.{Kept, Adds, Runs, ends, builds, refused, starved}

module _ (w : Written) (text : Bytes) (s t : Kept) (r : Result Regex BuildFault) (is : text ≡ w.text)
    (added : r ≢ Err Memory → t.sources ≡ s.sources ++ text ∷ []) (same : r ≡ Err Memory → t.sources ≡ s.sources) (later : s.refusals ≤ t.refusals)
    (rose : r ≡ Err Refused → HasRisen s.refusals t.refusals) where
  adds : r ≢ Err Memory → Adds w s t
  adds h = record { source = added h ∙ ap (λ (x : Bytes). s.sources ++ x ∷ []) is; later = later }

  pub built_ok : (x : Regex) → r ≡ Ok x → Runs (pattern w ∷ []) s t None
  built_ok x h = builds w [] s t t None (adds (λ e. let no : Ok x ≡ Err Memory = sym h ∙ e in cc)) (ends t)

  pub built_refused : r ≡ Err Refused → Runs (pattern w ∷ []) s t (Some (fault.Regex w.at))
  built_refused h = refused w [] s t (adds (λ e. let no : Err Refused ≡ Err Memory = sym h ∙ e in cc)) (rose h)

  pub built_memory : r ≡ Err Memory → Runs (pattern w ∷ []) s t (Some fault.Memory)
  built_memory h = starved (pattern w ∷ []) s t (same h) later

-- ---- a form that is told

module _ (x y : Lent) (is : x ≡ y) where
  pub form_runs : (s t : Kept) (a : Option QueryFault) → Runs (map pattern (form_pattern (form_told y))) s t a → Runs (map pattern (form_pattern (form_told x))) s t a
  form_runs s t a run = subst (λ (z : Lent). Runs (map pattern (form_pattern (form_told z))) s t a) (sym is) run

  pub form_none : (s : Kept) → map pattern (form_pattern (form_told y)) ≡ [] → Runs (map pattern (form_pattern (form_told x))) s s None
  form_none s none = form_runs s s None (runs_none (map pattern (form_pattern (form_told y))) s none)

  pub form_asks : (n : Names) (a : Asked) → AsksFor n (form_told y) a → AsksFor n (form_told x) a
  form_asks n a asks = subst (λ (z : Lent). AsksFor n (form_told z) a) (sym is) asks
