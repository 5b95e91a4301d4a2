-- What the only stack sees is what was lexed for its state, and the examined bytes decide it.
use Rattle.std.proofs.Common.{◌≡◌, sym, refl, subst, ℕ, suc, ◌<◌, ◌≤◌, ◌⊎◌, inl, inr, Bool, true, false, List, [], ◌∷◌, length, drop, length-drop, arith}
use Rattle.std.proofs.Math.Nat.{max-le}
use Rattle.std.proofs.lemmas.List.Sums.{prefix_len-le-length}
use Rattle.std.specs.List.{Contains}
use Rattle.ts_base.specs.Bytes.{Bytes}
use Rattle.ts_core.specs.declared.flat.FlatGrammar.{FlatGrammar}
use Rattle.ts_core.specs.declared.flat.TokenDef.{TokenDef}
use Rattle.ts_core.specs.declared.symbol.Symbol.{Symbol}
use Rattle.spec_lexing.specs.Matching.{MatchesToken, plainly, as_keyword}
use Rattle.spec_lexing.specs.Lexing.{Found, token, absent, behind, Lexes, takes, ends, passes, stops}
use Rattle.spec_lexing.specs.Seen.{Agree, HasFront, IsReach, IsSeen, last, more, one_character, is_inner}
use Rattle.spec_runs.specs.Configurations.{Configuration, AreValidTokens, NextIs}
use Rattle.ts_table.specs.declared.view.ParseTable.{ParseTable}
use Rattle.ts_table.specs.Tables.{IsTable, IsStateOf}
use Rattle.ts_gss.specs.declared.layer.Layer.{Layer}
use Rattle.ts_gss.specs.Stacks.{stack_at, trees_on}
use Rattle.ts_lexer.specs.Answers.{SaysFound, extent_of, IsLexedAt, LexesIn}
use Rattle.ts_lexer.specs.declared.lexed.Lexed.{Lexed}
use Rattle.ts_lexer.specs.declared.lexed.Lexed.TheVariants.{Token, Absent}
use Rattle.ts_steps.specs.declared.head.StackHead.{StackHead}
use Rattle.ts_steps.specs.MoveLaws.{Laws}
use Rattle.ts_steps.specs.LiveHeads.{read_on}
use Rattle.ts_steps.proofs.StackLemmas.{filling_bare}
use Rattle.ts_steps.specs.Laws.{SoundLaws}
use Rattle.ts_steps.specs.Looking.{SeesAhead, IsExtentAhead}
use Rattle.ts_steps.proofs.TableLemmas.{valid_tokens}

-- ---- the token that is found

-- it is valid, and has bytes if it is not the end
Names : List Symbol → Found → Type 0
Names valid (token s pad size) = Contains valid s × (0 < s.0 → 0 < size)
Names valid (absent n) = Unit {0}

names_behind : (valid : List Symbol) (n : ℕ) (f : Found) → Names valid f → Names valid (behind n f)
unfolding Names
names_behind valid n (token s pad size) h = h
names_behind valid n (absent m) h = h

matched : (g : FlatGrammar) (d : TokenDef) (rest : Bytes) (n : ℕ) → MatchesToken g d rest n → 0 < n
matched g d rest n (plainly k m) = m.some
matched g d rest n (as_keyword k word is longest m) = m.some

names_found : (g : FlatGrammar) (valid : List Symbol) (first : Bool) (rest : Bytes) (f : Found) → Lexes g valid first rest f → Names valid f
unfolding Names
names_found g valid _ _ _ (takes first rest s n best) = (best.candidate.is_valid, (λ some. matched g best.token rest n best.candidate.matches))
names_found g valid _ _ _ (ends first is) = (is, (λ some. some))
names_found g valid _ _ _ (passes first rest n f pass deep) = names_behind valid n f (names_found g valid false (drop n rest) f deep)
names_found g valid _ _ _ (stops first rest none lack) = tt

found_token : (g : FlatGrammar) (valid : List Symbol) (rest : Bytes) (s : Symbol) (pad size : ℕ) → Lexes g valid true rest (token s pad size) → Contains valid s × (0 < s.0 → 0 < size)
unfolding Names
found_token g valid rest s pad size l = names_found g valid true rest (token s pad size) l

pub next_some : (g : FlatGrammar) (text : Bytes) (c : Configuration) (s : Symbol) (pad size : ℕ) → NextIs g text c (token s pad size) → 0 < s.0 → 0 < size
next_some g text c s pad size n = (found_token g n.0 (drop c.place text) s pad size n.2).1

-- ---- how far the text is looked at

one_within : (bytes : Bytes) → one_character bytes ≤ suc (length bytes)
one_within [] = omega arith
one_within (b ∷ bs) = omega (arith, prefix_len-le-length is_inner bs)

module _ (laws : Laws) (g : FlatGrammar) (valid : List Symbol) where
  reach_within : (rest : Bytes) (r : ℕ) → IsReach g valid rest r → r ≤ suc (length rest)
  reach_within rest r x = omega (arith, x.is, one_within (drop x.size rest), length-drop x.size rest, low x.front)
    where
      low : (x.size ≡ 0) ⊎ HasFront g valid rest x.size → x.size ≤ length rest
      low (inl e) = omega (arith, e)
      low (inr f) = laws.begins_within rest f.characters x.size f.begins

  seen_within : (first : Bool) (rest : Bytes) (n : ℕ) → IsSeen g valid first rest n → n ≤ suc (length rest)
  seen_within _ _ _ (last first rest r lack x) = reach_within rest r x
  seen_within _ _ _ (more first rest m r s pass x deep) =
      let low = laws.begins_within rest pass.separator.matches.characters m pass.separator.matches.begins in
      let inner = seen_within false (drop m rest) s deep in
      max-le (reach_within rest r x) (omega (arith, low, inner, length-drop m rest))

-- ---- what the stack sees

module _ (laws : Laws) (sound : SoundLaws) (t : ParseTable) (n : ℕ) (text : Bytes) (stacks : List (List Layer)) (h : StackHead) (table : IsTable t) (st : IsStateOf t (read_on stacks h) n) where
  abbrev Settles : Lexed → Type 0
  Settles lexed = (other : Bytes) (found : Found) → SaysFound h.place lexed found → Agree (extent_of lexed) (drop h.place text) other → LexesIn t n other found

  sees_by : (lexed : Lexed) (valid : List Symbol) (found : Found) → h.place ≤ length text → AreValidTokens t.grammar (read_on stacks h) valid → Lexes t.grammar valid true (drop h.place text) found
      → SaysFound h.place lexed found → IsSeen t.grammar valid true (drop h.place text) (extent_of lexed) → Settles lexed → SeesAhead t text stacks h lexed
  sees_by (Token s pad size extent) valid found within are lex says seen settles =
      let l : Lexes t.grammar valid true (drop h.place text) (token s pad size) = subst (λ (f : Found). Lexes t.grammar valid true (drop h.place text) f) says lex in
      let is = found_token t.grammar valid (drop h.place text) s pad size l in
      let known = (are s).0 is.0 in
      record {
        decided = sound.lists t.grammar (read_on stacks h) (drop h.place text) s pad size extent valid are known
            (λ other agree. let r = settles other (token s pad size) refl agree in (r.valid, valid_tokens laws t (read_on stacks h) n r.valid table st r.are_valid, r.lex));
        known = known;
        past = laws.token_seen t.grammar valid (drop h.place text) s pad size extent l seen;
        reach = omega (arith, seen_within laws t.grammar valid true (drop h.place text) extent seen, length-drop h.place text, within);
        some = is.1;
      }
  sees_by (Absent place extent) valid found within are lex says seen settles = (
    says.0,
    (
      valid,
      subst (λ (r : List ℕ). AreValidTokens t.grammar r valid) (sym (filling_bare laws (trees_on (stack_at stacks h.top)))) are,
      subst (λ (f : Found). Lexes t.grammar valid true (drop h.place text) f) says.2 lex,
    ),
    says.1,
  )

  pub sees_lexed : (lexed : Lexed) → h.place ≤ length text → IsLexedAt t n text h.place lexed → Settles lexed → SeesAhead t text stacks h lexed
  sees_lexed lexed within l settles =
      sees_by lexed l.valid l.answer.found within (valid_tokens laws t (read_on stacks h) n l.valid table st l.are_valid) l.answer.lex l.answer.says l.answer.seen settles

  pub examined_lexed : (lexed : Lexed) → IsLexedAt t n text h.place lexed → IsExtentAhead t text stacks h (extent_of lexed)
  examined_lexed lexed l = record {
    valid = l.valid;
    are_valid = valid_tokens laws t (read_on stacks h) n l.valid table st l.are_valid;
    seen = l.answer.seen;
  }
