-- Files are refused with one status and one line, and not where nothing stands in the way.
use Rattle.std.proofs.Common.{◌≡◌, ◌∙◌, sym, ap, subst, refl, ℕ, List, Option, Some, None, arith}
use Rattle.ts_base.specs.Bytes.{Bytes}
use Rattle.ts_core.specs.declared.flat.FlatGrammar.{FlatGrammar}
use Rattle.spec_output.specs.Faults.{absent_line}
use Rattle.spec_output.specs.declared.status.Status.{Status}
use Rattle.ts_io.specs.Outside.{Files, file_at}
use Rattle.ts_langfile.specs.Spelling.{spelling}
use Rattle.ts_front.specs.Compiled.{IsCompiled, IsRefusalLine}
use Rattle.ts_front.specs.Grammars.{IsFormOf}
use Rattle.ts_query_syntax.specs.declared.fault.QueryFault.{QueryFault}
use Rattle.ts_query_syntax.specs.declared.read_query.ReadQuery.{ReadQuery}
use Rattle.ts_replies.specs.Faults.{script_fault_line}
use Rattle.ts_script.specs.Script.{IsScript, IsFault}
use Rattle.ts_script.specs.declared.fault.SFault.{SFault}
use Rattle.ts_script.specs.declared.plan.Plan.{Plan}
use Rattle.ts_loading.specs.Loads.{AreQueries, HaveNoFaults, IsFirstFault}
use Rattle.ts_session.specs.Documents.{AreOpened}
use Rattle.ts_session.specs.Grammars.{Builds}
use Rattle.ts_session.specs.Queries.{query_line}
use Rattle.ts_session.specs.Refusals.{RefusesPlan, missing, no_query, no_text, RefusesScript, no_script, of_plan, RefusesBytes, large_grammar, no_grammar, of_script, Refuses, grammar_absent, script_absent, of_bytes}
use Rattle.ts_session.specs.Sessions.{IsAsked, IsLoaded, IsClear}
use Rattle.ts_session.proofs.DocumentLemmas.{TextLaws, none_there, same_some, missing_once, missing_or_there, missing_or_opened, refused_once, refused_or_opened}

-- what is known of the bytes of files
pub record Laws : Type 0 where
  pub texts : TextLaws
  pub form_once : (w : Bytes) (f h : FlatGrammar) → IsFormOf w f → IsFormOf w h → f ≡ h
  pub line_once : (w a b : Bytes) → IsRefusalLine w a → IsRefusalLine w b → a ≡ b
  pub line_or_compiled : (w a b : Bytes) → IsRefusalLine w a → IsCompiled w b → ⊥
  pub plan_once : (w : Bytes) (p q : Plan) → IsScript w p → IsScript w q → p ≡ q
  pub fault_once : (w : Bytes) (e d : SFault) → IsFault w e → IsFault w d → e ≡ d
  pub fault_or_plan : (w : Bytes) (e : SFault) (p : Plan) → IsFault w e → IsScript w p → ⊥
  pub number_once : (g : FlatGrammar) (called texts : List Bytes) (m n : ℕ) (e f : QueryFault) → IsFirstFault g called texts m e → IsFirstFault g called texts n f → m ≡ n
  pub first_once : (g : FlatGrammar) (called texts : List Bytes) (m n : ℕ) (e f : QueryFault) → IsFirstFault g called texts m e → IsFirstFault g called texts n f → e ≡ f
  pub first_or_none : (g : FlatGrammar) (called texts : List Bytes) (n : ℕ) (f : QueryFault) → IsFirstFault g called texts n f → HaveNoFaults g called texts → ⊥

-- one status and one line
pub record AreOne (s t : Status) (b c : Bytes) : Type 0 where
  pub status : s ≡ t
  pub line : b ≡ c

one : (s : Status) (b c : Bytes) → b ≡ c → AreOne s s b c
one s b c e = record { status = refl; line = e }

module _ (laws : Laws) (called : List Bytes) (files : Files) where
  -- ---- what a script asks for

  query_lines : (f : FlatGrammar) (plan : Plan) (m n : ℕ) (e d : QueryFault) (a b : Bytes) → IsFirstFault f called plan.queries m e → IsFirstFault f called plan.queries n d → query_line m e ≡ Some a → query_line n d ≡ Some b → a ≡ b
  query_lines f plan m n e d a b x y p q =
      let same : query_line m e ≡ query_line n d = ap (λ (k : ℕ). query_line k e) (laws.number_once f called plan.queries m n e d x y) ∙ ap (query_line n) (laws.first_once f called plan.queries m n e d x y) in
      same_some (query_line m e) a b p (same ∙ q)

  plan_once : (f : FlatGrammar) (plan : Plan) (s t : Status) (b c : Bytes) → RefusesPlan called files f plan s b → RefusesPlan called files f plan t c → AreOne s t b c
  plan_once f plan s _ _ _ (missing p m) (missing q n) = one s (absent_line p) (absent_line q) (ap absent_line (missing_once files plan.documents p q m n))
  plan_once f plan _ _ _ _ (missing p m) (no_query k e line h x l) = absurd (missing_or_there files plan.documents p m h)
  plan_once f plan _ _ _ _ (missing p m) (no_text line h n r) = absurd (missing_or_there files plan.documents p m h)
  plan_once f plan _ _ _ _ (no_query k e line h x l) (missing p m) = absurd (missing_or_there files plan.documents p m h)
  plan_once f plan s _ _ _ (no_query k e line h x l) (no_query j d other i y m) = one s line other (query_lines f plan k j e d line other x y l m)
  plan_once f plan _ _ _ _ (no_query k e line h x l) (no_text other i n r) = absurd (laws.first_or_none f called plan.queries k e x n)
  plan_once f plan _ _ _ _ (no_text line h n r) (missing p m) = absurd (missing_or_there files plan.documents p m h)
  plan_once f plan _ _ _ _ (no_text line h n r) (no_query k e other i x l) = absurd (laws.first_or_none f called plan.queries k e x n)
  plan_once f plan s _ _ _ (no_text line h n r) (no_text other k m q) = one s line other (refused_once laws.texts files plan.documents line other r q)

  plan_there : (f : FlatGrammar) (w : Bytes) (p q : Plan) (s t : Status) (b c : Bytes) → IsScript w p → IsScript w q → RefusesPlan called files f p s b → RefusesPlan called files f q t c → AreOne s t b c
  plan_there f w p q s t b c x y j k = plan_once f p s t b c j (subst (λ (r : Plan). RefusesPlan called files f r t c) (sym (laws.plan_once w p q x y)) k)

  fault_lines : (w : Bytes) (e d : SFault) (a b : Bytes) → IsFault w e → IsFault w d → script_fault_line e ≡ Some a → script_fault_line d ≡ Some b → a ≡ b
  fault_lines w e d a b x y p q = same_some (script_fault_line e) a b p (ap script_fault_line (laws.fault_once w e d x y) ∙ q)

  script_once : (f : FlatGrammar) (w : Bytes) (s t : Status) (b c : Bytes) → RefusesScript called files f w s b → RefusesScript called files f w t c → AreOne s t b c
  script_once f w s _ _ _ (no_script e line x p) (no_script d other y q) = one s line other (fault_lines w e d line other x y p q)
  script_once f w _ _ _ _ (no_script e line x p) (of_plan plan t c y j) = absurd (laws.fault_or_plan w e plan x y)
  script_once f w _ _ _ _ (of_plan plan s b y j) (no_script e line x p) = absurd (laws.fault_or_plan w e plan x y)
  script_once f w _ _ _ _ (of_plan plan s b x j) (of_plan other t c y i) = plan_there f w plan other s t b c x y j i

  -- ---- a grammar and a script

  refused_or_builds : (g line : Bytes) (f : FlatGrammar) → IsRefusalLine g line → Builds g f → ⊥
  refused_or_builds g line f r b = laws.line_or_compiled g line (spelling f) r (record { form = f; is_form = b.is_form; table = b.table; bytes_are = refl })

  bytes_once : (g w : Bytes) (s t : Status) (b c : Bytes) → RefusesBytes called files g w s b → RefusesBytes called files g w t c → AreOne s t b c
  bytes_once g w s _ b _ (large_grammar l) (large_grammar k) = one s b b refl
  bytes_once g w _ _ _ _ (large_grammar l) (no_grammar line k r) = absurd (omega (arith, l, k))
  bytes_once g w _ _ _ _ (large_grammar l) (of_script f t c k j) = let small = k.small in absurd (omega (arith, l, small))
  bytes_once g w _ _ _ _ (no_grammar line k r) (large_grammar l) = absurd (omega (arith, l, k))
  bytes_once g w s _ _ _ (no_grammar line k r) (no_grammar other l q) = one s line other (laws.line_once g line other r q)
  bytes_once g w _ _ _ _ (no_grammar line k r) (of_script f t c b j) = absurd (refused_or_builds g line f r b)
  bytes_once g w _ _ _ _ (of_script f s b k j) (large_grammar l) = let small = k.small in absurd (omega (arith, l, small))
  bytes_once g w _ _ _ _ (of_script f s c b j) (no_grammar line k r) = absurd (refused_or_builds g line f r b)
  bytes_once g w _ _ _ _ (of_script f s b k j) (of_script h t c l i) =
      script_once f w s t b c j (subst (λ (x : FlatGrammar). RefusesScript called files x w t c) (sym (laws.form_once g f h k.is_form l.is_form)) i)

  bytes_there : (g w h v : Bytes) (s t : Status) (b c : Bytes) → g ≡ h → w ≡ v → RefusesBytes called files g w s b → RefusesBytes called files h v t c → AreOne s t b c
  bytes_there g w h v s t b c p q j k =
      let moved : RefusesBytes called files g v t c = subst (λ (x : Bytes). RefusesBytes called files x v t c) (sym p) k in
      bytes_once g w s t b c j (subst (λ (x : Bytes). RefusesBytes called files g x t c) (sym q) moved)

  once : (gp sp : Bytes) (s t : Status) (b c : Bytes) → Refuses called files gp sp s b → Refuses called files gp sp t c → AreOne s t b c
  once gp sp s _ b _ (grammar_absent n) (grammar_absent m) = one s b b refl
  once gp sp _ _ _ _ (grammar_absent n) (script_absent g x m) = absurd (none_there g (file_at files gp) n x)
  once gp sp _ _ _ _ (grammar_absent n) (of_bytes g w t c x y j) = absurd (none_there g (file_at files gp) n x)
  once gp sp _ _ _ _ (script_absent g x m) (grammar_absent n) = absurd (none_there g (file_at files gp) n x)
  once gp sp s _ b _ (script_absent g x m) (script_absent h y n) = one s b b refl
  once gp sp _ _ _ _ (script_absent g x m) (of_bytes h w t c y z j) = absurd (none_there w (file_at files sp) m z)
  once gp sp _ _ _ _ (of_bytes g w s b x y j) (grammar_absent n) = absurd (none_there g (file_at files gp) n x)
  once gp sp _ _ _ _ (of_bytes h w s b y z j) (script_absent g x m) = absurd (none_there w (file_at files sp) m z)
  once gp sp _ _ _ _ (of_bytes g w s b x y j) (of_bytes h v t c p q k) =
      bytes_there g w h v s t b c (same_some (file_at files gp) g h x p) (same_some (file_at files sp) w v y q) j k

  pub status_once : (gp sp : Bytes) (s t : Status) (b c : Bytes) → Refuses called files gp sp s b → Refuses called files gp sp t c → s ≡ t
  status_once gp sp s t b c x y = (once gp sp s t b c x y).status

  pub line_once : (gp sp : Bytes) (s t : Status) (b c : Bytes) → Refuses called files gp sp s b → Refuses called files gp sp t c → b ≡ c
  line_once gp sp s t b c x y = (once gp sp s t b c x y).line

  -- ---- where nothing stands in the way

  plan_clear : (f : FlatGrammar) (plan : Plan) (openings : List Bytes) (s : Status) (b : Bytes) → HaveNoFaults f called plan.queries → AreOpened files plan.documents openings → RefusesPlan called files f plan s b → ⊥
  plan_clear f plan openings _ _ n o (missing p m) = missing_or_opened files plan.documents p openings m o
  plan_clear f plan openings _ _ n o (no_query k e line h x l) = laws.first_or_none f called plan.queries k e x n
  plan_clear f plan openings _ _ n o (no_text line h m r) = refused_or_opened laws.texts files plan.documents line openings r o

  script_clear : (f : FlatGrammar) (w : Bytes) (plan : Plan) (openings : List Bytes) (s : Status) (b : Bytes) → IsScript w plan → HaveNoFaults f called plan.queries → AreOpened files plan.documents openings → RefusesScript called files f w s b → ⊥
  script_clear f w plan openings _ _ x n o (no_script e line y p) = laws.fault_or_plan w e plan y x
  script_clear f w plan openings _ _ x n o (of_plan other s b y j) = plan_clear f plan openings s b n o (subst (λ (q : Plan). RefusesPlan called files f q s b) (laws.plan_once w other plan y x) j)

  bytes_clear : (g w : Bytes) (f : FlatGrammar) (plan : Plan) (openings : List Bytes) (s : Status) (b : Bytes) → Builds g f → IsScript w plan → HaveNoFaults f called plan.queries → AreOpened files plan.documents openings → RefusesBytes called files g w s b → ⊥
  bytes_clear g w f plan openings _ _ m x n o (large_grammar l) = let small = m.small in omega (arith, l, small)
  bytes_clear g w f plan openings _ _ m x n o (no_grammar line l r) = refused_or_builds g line f r m
  bytes_clear g w f plan openings _ _ m x n o (of_script h s b l j) = script_clear f w plan openings s b x n o (subst (λ (k : FlatGrammar). RefusesScript called files k w s b) (laws.form_once g h f l.is_form m.is_form) j)

  asked_clear : (gp sp : Bytes) (f : FlatGrammar) (plan : Plan) (openings : List Bytes) (s : Status) (b : Bytes) → IsAsked files gp sp f plan → HaveNoFaults f called plan.queries → AreOpened files plan.documents openings → Refuses called files gp sp s b → ⊥
  asked_clear gp sp f plan openings _ _ a n o (grammar_absent m) = none_there a.grammar_file (file_at files gp) m a.grammar_is
  asked_clear gp sp f plan openings _ _ a n o (script_absent g x m) = none_there a.script_file (file_at files sp) m a.script_is
  asked_clear gp sp f plan openings _ _ a n o (of_bytes g w s b x y j) =
      let same_grammar : a.grammar_file ≡ g = same_some (file_at files gp) a.grammar_file g a.grammar_is x in
      let same_script : a.script_file ≡ w = same_some (file_at files sp) a.script_file w a.script_is y in
      bytes_clear g w f plan openings s b (subst (λ (k : Bytes). Builds k f) same_grammar a.builds) (subst (λ (k : Bytes). IsScript k plan) same_script a.is_script) n o j

  pub clear_or_refused : (gp sp : Bytes) (s : Status) (b : Bytes) → IsClear called files gp sp → Refuses called files gp sp s b → ⊥
  clear_or_refused gp sp s b c r = asked_clear gp sp c.form c.plan c.openings s b c.asked c.no_faults c.are_opened r

  pub loaded_or_refused : ((g : FlatGrammar) (known texts : List Bytes) (queries : List ReadQuery) → AreQueries g known texts queries → HaveNoFaults g known texts)
      → (gp sp : Bytes) (f : FlatGrammar) (plan : Plan) (queries : List ReadQuery) (openings : List Bytes) (s : Status) (b : Bytes) → IsLoaded called files gp sp f plan queries openings → Refuses called files gp sp s b → ⊥
  loaded_or_refused law gp sp f plan queries openings s b l r = asked_clear gp sp f plan openings s b l.asked (law f called plan.queries queries l.are_queries) l.are_opened r
