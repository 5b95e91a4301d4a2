-- What a head sees is what was lexed for its state.
use Rattle.std.proofs.Common.{◌≡◌, ◌∙◌, sym, ap, refl, subst, ℕ, ◌<◌, ◌≤◌, ◌⊎◌, inl, inr, true, List, [], ◌∷◌, length, length-drop, drop, slice_get, Some, arith}
use Rattle.ts_base.specs.Bytes.{Bytes}
use Rattle.ts_core.specs.declared.symbol.Symbol.{Symbol}
use Rattle.spec_grammar.specs.Symbols.{is_extra}
use Rattle.spec_lexing.specs.Lexing.{Found, token, Lex}
use Rattle.spec_lexing.specs.Seen.{Seen}
use Rattle.spec_runs.specs.Configurations.{HasMove, AreValidTokens}
use Rattle.spec_graph.specs.declared.graph.Head.{Head}
use Rattle.spec_graph.specs.declared.graph.Link.{Link}
use Rattle.spec_graph.specs.States.{LeadsTo, at_first, by_goto, ShareState}
use Rattle.spec_graph.specs.Laying.{Parsing, SeesAt}
use Rattle.spec_graph.specs.Links.{IsAt, IsWay, IsGraph}
use Rattle.ts_graph.specs.declared.view.GraphView.{GraphView}
use Rattle.ts_table.specs.declared.view.ParseTable.{ParseTable}
use Rattle.ts_table.specs.Tables.{goto_of, IsTable, IsStateOf}
use Rattle.ts_table.specs.Tables as tables
use Rattle.ts_lexer.specs.Answers.{SaysFound, extent_of, IsLexedAt}
use Rattle.ts_lexer.specs.declared.lexed.Lexed.{Lexed}
use Rattle.ts_lexer.specs.declared.lexed.Lexed.TheVariants.{Token, Absent}
use Rattle.ts_reductions.specs.SoundLinks.{bare_links}
use Rattle.ts_reductions.specs.Sound.{parsing_from, parsing_of, IsSoundOver}
use Rattle.ts_places.specs.ShiftLaws.{LookLaws}
use Rattle.ts_places.specs.Looking.{IsHeadAt, SeesThere}
use Rattle.ts_places.proofs.SeenLemmas.{found_token, seen_within}

-- ---- states

pub leads_state : (t : ParseTable) (read : List ℕ) (n : ℕ) → LeadsTo (goto_of t) read n → IsStateOf t read n
leads_state t _ _ at_first = tables.at_first
leads_state t _ _ (by_goto read state symbol next s e) = tables.by_goto read state symbol next (leads_state t read state s) e

-- some symbols lead to the state of each head
pub head_reads : (P : Parsing) (heads : List Head) (links : List Link) → IsGraph P heads links → (h : ℕ) (head : Head) → slice_get heads h ≡ Some head → (read : List ℕ) × LeadsTo P.goto read head.state
head_reads P heads links graph h head is = let d = graph.down h head is in by d.0 d.1
  where
    at_it : (read : List ℕ) (place k : ℕ) → k ≡ h → IsAt P heads k read place → (read : List ℕ) × LeadsTo P.goto read head.state
    at_it read place k e a =
        let f : Some a.head ≡ Some head = sym a.is ∙ ap (λ (n : ℕ). slice_get heads n) e ∙ is in
        let one : a.head ≡ head = cc in
        (read, subst (λ (x : Head). LeadsTo P.goto read x.state) one a.state)

    by : (way : List Link) → IsWay links h way 0 → (read : List ℕ) × LeadsTo P.goto read head.state
    by [] e = at_it [] 0 0 (sym e) graph.start
    by (l ∷ way) w = let a = graph.linked l w.0 in at_it a.over a.to l.above w.1 a.above

pub one_head : (heads : List Head) (h : ℕ) (a b : Head) → slice_get heads h ≡ Some a → slice_get heads h ≡ Some b → a ≡ b
one_head heads h a b x y = let f : Some a ≡ Some b = sym x ∙ y in cc

-- two lists of symbols at one head share its state
pub share_head : (P : Parsing) (heads : List Head) (h : ℕ) (read other : List ℕ) (p q : ℕ) → IsAt P heads h read p → IsAt P heads h other q → ShareState P.goto read other
share_head P heads h read other p q a b =
    (b.head.state, subst (λ (x : Head). LeadsTo P.goto read x.state) (one_head heads h a.head b.head a.is b.is) a.state, b.state)

-- ---- what is seen

module _ (laws : LookLaws) (t : ParseTable) (text : Bytes) (g : GraphView) (sound : IsSoundOver t text g) where
  abbrev P : Parsing
  P = parsing_of t text

  pub sees_one : (read : List ℕ) (place : ℕ) (f h : Found) → SeesAt P read place f → SeesAt P read place h → f ≡ h
  sees_one read place f h a b =
      laws.one_answer t.grammar b.0 (drop place text) f h
      (laws.same_tokens t.grammar a.0 b.0 (drop place text) f (λ s. ((λ w. (b.1 s).1 ((a.1 s).0 w)), (λ w. (a.1 s).1 ((b.1 s).0 w)))) a.2) b.2

  pub move_shared : (read other : List ℕ) (n : ℕ) → ShareState P.goto read other → HasMove t.grammar read n → HasMove t.grammar other n
  move_shared read other n s m = (m.0, sound.1.laid.parsed.states.acts read other n m.0 s m.1)

  valid_shared : (read other : List ℕ) (s : Symbol) → ShareState P.goto read other → HasMove t.grammar read s.0 ⊎ (is_extra t.grammar s.0 ≡ true) → HasMove t.grammar other s.0 ⊎ (is_extra t.grammar s.0 ≡ true)
  valid_shared read other s share (inl m) = inl (move_shared read other s.0 share m)
  valid_shared read other s share (inr e) = inr e

  pub sees_shared : (read other : List ℕ) (place : ℕ) (f : Found) → ShareState P.goto read other → SeesAt P read place f → SeesAt P other place f
  sees_shared read other place f s a = (
    a.0,
    (λ x. ((λ w. valid_shared read other x s ((a.1 x).0 w)), (λ v. (a.1 x).1 (valid_shared other read x (s.0, s.2, s.1) v)))),
    a.2,
  )

  -- one head sees one thing
  pub head_sees : (h look : ℕ) (read other : List ℕ) (f k : Found) → IsAt P g.heads h read look → IsAt P g.heads h other look → SeesAt P read look f → SeesAt P other look k → f ≡ k
  head_sees h look read other f k a b x y = sees_one other look f k (sees_shared read other look f (share_head P g.heads h read other look look a b) x) y

  module _ (table : IsTable t) (h : ℕ) (head : Head) (is : slice_get g.heads h ≡ Some head) where
    reads : (read : List ℕ) × LeadsTo P.goto read head.state
    reads = head_reads (parsing_from t text sound.0) g.heads (bare_links g.links) sound.1.laid.graph h head is

    state_is : IsStateOf t reads.0 head.state
    state_is = leads_state t reads.0 head.state reads.1

    pub state_low : head.state < length t.rows
    state_low = table.inside reads.0 head.state state_is

    pub place_low : head.place ≤ length text
    place_low = sound.1.laid.within h head is

    sees_by : (lexed : Lexed) (valid : List Symbol) (found : Found) → AreValidTokens t.grammar reads.0 valid → Lex t.grammar valid (drop head.place text) found
        → SaysFound head.place lexed found → Seen t.grammar valid (drop head.place text) (extent_of lexed) → SeesThere t text g head.place h lexed
    sees_by (Token s pad size extent) valid found are lex says seen =
        let l : Lex t.grammar valid (drop head.place text) (token s pad size) = subst (λ (f : Found). Lex t.grammar valid (drop head.place text) f) says lex in
        record {
          read = reads.0;
          at = record { head = head; is = is; state = reads.1; place_is = refl };
          sees = (valid, are, l);
          past = laws.token_seen t.grammar valid (drop head.place text) s pad size extent l seen;
          reach = omega (arith, seen_within laws t.grammar valid true (drop head.place text) extent seen, length-drop head.place text, place_low);
          some = (found_token t.grammar valid (drop head.place text) s pad size l).1;
        }
    sees_by (Absent place extent) valid found are lex says seen = record {
      read = reads.0;
      at = record { head = head; is = is; state = reads.1; place_is = refl };
      far = says.0;
      sees = (valid, are, subst (λ (f : Found). Lex t.grammar valid (drop head.place text) f) says.2 lex);
      stop_is = says.1;
    }

    pub sees_there : (look : ℕ) → IsHeadAt g look h → (lexed : Lexed) → IsLexedAt t head.state text head.place lexed → SeesThere t text g look h lexed
    sees_there look st lexed l =
        let e : head.place ≡ look = ap (λ (x : Head). x.place) (one_head g.heads h head st.0 is st.1) ∙ st.2 in
        subst (λ (n : ℕ). SeesThere t text g n h lexed) e
        (sees_by lexed l.valid l.answer.found (laws.known t reads.0 head.state l.valid table state_is l.are_valid) l.answer.lex l.answer.says l.answer.seen)
