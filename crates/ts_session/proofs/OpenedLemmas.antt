-- What is answered of files, as their refusal or their session.
use Rattle.std.proofs.Common.{◌≡◌, ◌∙◌, sym, ap, subst, refl, ℕ, ◌^◌, ◌<◌, length, ◌⊎◌, inl, inr, List, Some, Result, Ok, Err}
use Rattle.std.specs.Result.{IfOk}
use Rattle.std.specs.List.{All as Each}
use Rattle.std.specs.Global.{Vec}
use Rattle.ts_table.specs.declared.view.ParseTable.{ParseTable}
use Rattle.ts_base.specs.Bytes.{Bytes}
use Rattle.ts_core.specs.declared.flat.FlatGrammar.{FlatGrammar}
use Rattle.spec_output.specs.declared.status.Status.{Status}
use Rattle.spec_output.specs.declared.status.Status.TheVariants.{Query}
use Rattle.ts_io.specs.Outside.{Files, file_at}
use Rattle.ts_query_syntax.specs.declared.fault.QueryFault.{QueryFault}
use Rattle.ts_query_syntax.specs.declared.fault.QueryFault.TheVariants as fault
use Rattle.ts_query_syntax.specs.declared.read_query.ReadQuery.{ReadQuery}
use Rattle.ts_script.specs.Script.{IsScript}
use Rattle.ts_script.specs.declared.plan.Plan.{Plan}
use Rattle.ts_loading.specs.Loads.{AreQueries, IsCause, of_text, of_patterns, HasLoadCause, GrewByEach}
use Rattle.ts_loading.specs.declared.fault.LoadFault.{LoadFault}
use Rattle.ts_loading.specs.declared.fault.LoadFault.TheVariants as load
use Rattle.ts_session.specs.Documents.{HaveFiles, AreOpened}
use Rattle.ts_session.specs.Grammars.{Builds}
use Rattle.ts_session.specs.Opened.{OpensAs, HasReadQueries, IsRefusedSo, IsReadyOrMemory}
use Rattle.ts_session.specs.Parts.{IsParts, AreParts, HasFirstTexts, HasQueries}
use Rattle.ts_session.specs.Queries.{regex_line, query_line, load_line}
use Rattle.ts_session.specs.Refusals.{RefusesPlan, no_query, RefusesScript, of_plan, RefusesBytes, of_script, Refuses, of_bytes}
use Rattle.ts_session.specs.Sessions.{IsAsked, IsLoaded, IsClear, IsRefusal, of_files, of_patterns as refused_by_patterns, IsRegexRefusal}
use Rattle.ts_session.specs.declared.answer.Unanswered.{Unanswered}
use Rattle.ts_session.specs.declared.answer.Unanswered.TheVariants.{Read, Memory}
use Rattle.ts_session.specs.declared.judging.Parts.{Parts}
use Rattle.ts_session.specs.declared.judging.Parts.TheVariants.{All}
use Rattle.ts_session.specs.declared.judging.Parts.TheVariants as parts
use Rattle.ts_session.specs.declared.session.Session.{Session}
use Rattle.ts_session.specs.declared.opened.Opened.{Opened}
use Rattle.ts_session.specs.declared.opened.Opened.TheVariants.{Ready, Refused}
use Rattle.ts_session.proofs.DocumentLemmas.{none_there, same_some}
use Rattle.ts_session.proofs.PlayLemmas.{RefusalLaws}

module _ (called : List Bytes) (files : Files) (gp sp : Bytes) where
  -- ---- what the files decide

  pub refuses_bytes : (g s : Bytes) (ends : Status) (line : Bytes) → file_at files gp ≡ Some g → file_at files sp ≡ Some s → RefusesBytes called files g s ends line → Refuses called files gp sp ends line
  refuses_bytes g s ends line x y r = of_bytes g s ends line x y r

  pub refuses_script : (g s : Bytes) (f : FlatGrammar) (ends : Status) (line : Bytes) → file_at files gp ≡ Some g → Builds g f → file_at files sp ≡ Some s → RefusesScript called files f s ends line → Refuses called files gp sp ends line
  refuses_script g s f ends line x b y r = of_bytes g s ends line x y (of_script f ends line b r)

  pub refuses_plan : (f : FlatGrammar) (plan : Plan) (ends : Status) (line : Bytes) → IsAsked files gp sp f plan → RefusesPlan called files f plan ends line → Refuses called files gp sp ends line
  refuses_plan f plan ends line a r = refuses_script a.grammar_file a.script_file f ends line a.grammar_is a.builds a.script_is (of_plan plan ends line a.is_script r)

  module _ (rose : Type 0) (old new : List Bytes) where
    -- a status and a line that equal those of a refusal
    pub refused_as : (s t : Status) (b c : Bytes) → s ≡ t → b ≡ c → Refuses called files gp sp t c → IsRefusal called files gp sp rose old new s b
    refused_as s t b c status line r = of_files s b (subst (λ (e : Status). Refuses called files gp sp e b) (sym status) (subst (Refuses called files gp sp t) (sym line) r))

    -- ---- queries

    of_cause : (f : FlatGrammar) (plan : Plan) (number : ℕ) (e : QueryFault) (line : Bytes) → IsAsked files gp sp f plan → HaveFiles files plan.documents → IsCause f called plan.queries rose old new number e → query_line number e ≡ Some line
        → IsRefusal called files gp sp rose old new Query line
    of_cause f plan number _ line a h (of_text e first) l = of_files Query line (refuses_plan f plan Query line a (no_query number e line h first l))
    of_cause f plan number _ line a h (of_patterns at up cause) l = refused_by_patterns line up (record {
      form = f;
      plan = plan;
      asked = a;
      have_files = h;
      number = number;
      place = at;
      refused = cause;
      line_is = same_some (Some (regex_line number at)) line (regex_line number at) l refl;
    })

    of_load : (f : FlatGrammar) (plan : Plan) (e : LoadFault) (line : Bytes) → IsAsked files gp sp f plan → HaveFiles files plan.documents → HasLoadCause f called plan.queries rose old new e → load_line e ≡ Some line
        → IsRefusal called files gp sp rose old new Query line
    of_load f plan (load.Query number e) line a h cause l = of_cause f plan number e line a h cause l
    of_load f plan load.Memory line a h cause l = absurd (none_there line (load_line load.Memory) refl l)

    pub not_loaded : (f : FlatGrammar) (plan : Plan) (e : LoadFault) (s : Status) (line : Bytes) → IsAsked files gp sp f plan → HaveFiles files plan.documents → HasLoadCause f called plan.queries rose old new e → load_line e ≡ Some line
        → s ≡ Query → IsRefusal called files gp sp rose old new s line
    not_loaded f plan e s line a h cause l status = subst (λ (t : Status). IsRefusal called files gp sp rose old new t line) (sym status) (of_load f plan e line a h cause l)

    -- ---- what is answered

    pub parts_opened : (f : FlatGrammar) (plan : Plan) (queries : List ReadQuery) (ps : Parts) → IsAsked files gp sp f plan → AreQueries f called plan.queries queries → HasQueries plan queries ps → HasFirstTexts called files f plan ps
        → IsParts called files gp sp f plan rose old new ps
    parts_opened f plan queries (All qs texts) a q with t = subst (λ (all : List ReadQuery). IsLoaded called files gp sp f plan all texts.items) (sym with.0) (record { asked = a; are_queries = q; are_opened = t })
    parts_opened f plan queries (parts.Refused answer) a q with t = of_files answer.status answer.bytes.items (refuses_plan f plan answer.status answer.bytes.items a t)

    judged_so : RefusalLaws → (s ends : Status) (b line : Bytes) → IsRefusal called files gp sp rose old new s b → Refuses called files gp sp ends line → ((s ≡ ends) × (b ≡ line)) ⊎ rose
    judged_so laws _ ends _ line (of_files s b r) q = inl (laws.status called files gp sp s ends b line r q, laws.line called files gp sp s ends b line r q)
    judged_so laws _ ends _ line (refused_by_patterns b up r) q = inr up

    clear_so : ((s : Status) (b : Bytes) → IsClear called files gp sp → Refuses called files gp sp s b → ⊥) → (s : Status) (b : Bytes) → IsClear called files gp sp → (rose → ⊥) → IsRefusal called files gp sp rose old new s b → ⊥
    clear_so law _ _ c n (of_files s b r) = law s b c r
    clear_so law _ _ c n (refused_by_patterns b up r) = n up

    pub exact_of : RefusalLaws → (result : Result Opened Unanswered) (ends : Status) (line : Bytes) → IfOk result (OpensAs called files gp sp rose old new) → Refuses called files gp sp ends line → IsRefusedSo ends line rose result
    exact_of laws (Ok (Ready s)) ends line is r = laws.loaded called files gp sp s.table.grammar s.plan s.queries s.texts.items ends line is r
    exact_of laws (Ok (Refused a)) ends line is r = judged_so laws a.status ends a.bytes.items line is r
    exact_of laws (Err e) ends line is r = tt

    pub complete_of : ((s : Status) (b : Bytes) → IsClear called files gp sp → Refuses called files gp sp s b → ⊥) → (fell : Type 0) (result : Result Opened Unanswered) → IfOk result (OpensAs called files gp sp rose old new)
        → (result ≡ Err Read → fell) → IsClear called files gp sp → (fell → ⊥) → (rose → ⊥) → IsReadyOrMemory result
    complete_of law fell (Ok (Ready s)) is read c n m = tt
    complete_of law fell (Ok (Refused a)) is read c n m = clear_so law a.status a.bytes.items c m is
    complete_of law fell (Err Read) is read c n m = n (read refl)
    complete_of law fell (Err Memory) is read c n m = tt

-- the parts of a session are whole
pub parts_whole : (called : List Bytes) (old new : List Bytes) (f : FlatGrammar) (plan : Plan) (queries : List ReadQuery) (ps : Parts) → AreQueries f called plan.queries queries → GrewByEach f called plan.queries old new
    → Each (λ (q : ReadQuery). length q.patterns < 2 ^ 32) queries → HasQueries plan queries ps → AreParts called f plan old new ps
parts_whole called old new f plan queries (All qs texts) q grew few with = (
  subst (AreQueries f called plan.queries) (sym with.0) q,
  grew,
  subst (Each (λ (q : ReadQuery). length q.patterns < 2 ^ 32)) (sym with.0) few,
  with.1,
)
parts_whole called old new f plan queries (parts.Refused answer) q grew few with = inr (inr (inr (inr (inr with))))

-- the session of these parts is what the files come to
pub same_loaded : (called : List Bytes) (files : Files) (gp sp : Bytes) (s : Session) (table : ParseTable) (plan : Plan) (queries : List ReadQuery) (texts : Vec Bytes) → s.table ≡ table → s.plan ≡ plan → s.queries ≡ queries → s.texts ≡ texts
    → IsLoaded called files gp sp table.grammar plan queries texts.items → IsLoaded called files gp sp s.table.grammar s.plan s.queries s.texts.items
same_loaded called files gp sp s table plan queries texts t p q x l =
    subst (λ (v : ParseTable). IsLoaded called files gp sp v.grammar s.plan s.queries s.texts.items) (sym t)
    (subst (λ (v : Plan). IsLoaded called files gp sp table.grammar v s.queries s.texts.items) (sym p)
    (subst (λ (v : List ReadQuery). IsLoaded called files gp sp table.grammar plan v s.texts.items) (sym q)
    (subst (λ (v : Vec Bytes). IsLoaded called files gp sp table.grammar plan queries v.items) (sym x) l)))

pub same_read : (called old new : List Bytes) (s : Session) (table : ParseTable) (plan : Plan) (queries : List ReadQuery) → s.table ≡ table → s.plan ≡ plan → s.queries ≡ queries → AreQueries table.grammar called plan.queries queries
    → GrewByEach table.grammar called plan.queries old new → HasReadQueries called old new (Ready s)
same_read called old new s table plan queries t p q are grew = (
  subst (λ (v : ParseTable). AreQueries v.grammar called s.plan.queries s.queries) (sym t)
      (subst (λ (v : Plan). AreQueries table.grammar called v.queries s.queries) (sym p) (subst (AreQueries table.grammar called plan.queries) (sym q) are)),
  subst (λ (v : ParseTable). GrewByEach v.grammar called s.plan.queries old new) (sym t)
      (subst (λ (v : Plan). GrewByEach table.grammar called v.queries old new) (sym p) grew),
)
