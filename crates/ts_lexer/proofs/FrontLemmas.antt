-- What can begin what is looked for, by parts.
use Rattle.std.proofs.Common.{◌≡◌, ◌∙◌, sym, ap, refl, subst, ℕ, suc, ◌+◌, List, [], ◌∷◌, ◌++◌, length, map, slice_get, Some, arith}
use Rattle.std.specs.Option.{option_map}
use Rattle.std.proofs.lemmas.List.{length-map}
use Rattle.std.proofs.lemmas.Option.{slice_get-map}
use Rattle.ts_core.specs.declared.flat.FlatGrammar.{FlatGrammar}
use Rattle.ts_core.specs.declared.flat.TokenDef.{TokenDef}
use Rattle.ts_core.specs.declared.re.Re.{Re}
use Rattle.ts_core.specs.declared.symbol.Symbol.{Symbol}
use Rattle.spec_lexing.specs.Words.{Regular, Front, regular_of}
use Rattle.spec_lexing.specs.Seen.{CanBegin, a_token, the_word, a_separator}
use Rattle.ts_automata.specs.Automata.{parts_of}
use Rattle.ts_lexer.specs.Judged.{PartFront, Wanted, valid_token, word_token}
use Rattle.ts_lexer.specs.Judged as judged
use Rattle.ts_lexer.proofs.ChooseLemmas.{part_of_token}

at_behind : {X : Type 0} (xs ys : List X) (k : ℕ) → slice_get (xs ++ ys) (length xs + k) ≡ slice_get ys k
at_behind [] ys k = ap (λ (n : ℕ). slice_get ys n) (let e : 0 + k ≡ k = omega arith in e)
at_behind (x ∷ xs) ys k = ap (λ (n : ℕ). slice_get (x ∷ (xs ++ ys)) n) (let e : suc (length xs) + k ≡ suc (length xs + k) = omega arith in e) ∙ at_behind xs ys k

pub part_of_separator : (g : FlatGrammar) (place : ℕ) (separator : Re) → slice_get g.separators place ≡ Some separator → slice_get (parts_of g) (length g.tokens + place) ≡ Some (regular_of separator)
part_of_separator g place separator at =
    ap (λ (n : ℕ). slice_get (parts_of g) (n + place)) (sym (length-map g.tokens (λ (x : TokenDef). regular_of x.re)))
    ∙ at_behind (map (λ (x : TokenDef). regular_of x.re) g.tokens) (map regular_of g.separators) place
    ∙ slice_get-map regular_of g.separators place ∙ ap (option_map regular_of) at

front_by : (g : FlatGrammar) (w : List ℕ) (k : ℕ) (p : Regular) → slice_get (parts_of g) k ≡ Some p → PartFront g w k → Front p w
front_by g w k p at f =
    let e : Some f.expression ≡ Some p = sym f.at ∙ at in
    let same : f.expression ≡ p = cc in
    subst (λ (q : Regular). Front q w) same f.front

pub can_begin : (g : FlatGrammar) (valid : List Symbol) (w : List ℕ) (k : ℕ) → Wanted g valid k → PartFront g w k → CanBegin g valid w
can_begin g valid w k (valid_token s t is_valid x) f =
    a_token s t is_valid (record { place = k; number = x.number; at = x.at }) (front_by g w k (regular_of t.re) (part_of_token g k t x.at) f)
can_begin g valid w k (word_token has s t word x) f =
    the_word has t (record { symbol = s; word = word; is_token = record { place = k; number = x.number; at = x.at } }) (front_by g w k (regular_of t.re) (part_of_token g k t x.at) f)
can_begin g valid w k (judged.a_separator place separator number at) f =
    a_separator place separator at
    (front_by g w k (regular_of separator) (ap (λ (n : ℕ). slice_get (parts_of g) n) number ∙ part_of_separator g place separator at) f)

pub begin_part : (g : FlatGrammar) (valid : List Symbol) (w : List ℕ) → CanBegin g valid w → (k : ℕ) × Wanted g valid k × PartFront g w k
begin_part g valid w (a_token s t is_valid x f) =
    (x.place, valid_token s t is_valid (record { number = x.number; at = x.at }), record { expression = regular_of t.re; at = part_of_token g x.place t x.at; front = f })
begin_part g valid w (the_word has t x f) =
    (x.is_token.place, word_token has x.symbol t x.word (record { number = x.is_token.number; at = x.is_token.at }), record { expression = regular_of t.re; at = part_of_token g x.is_token.place t x.is_token.at; front = f })
begin_part g valid w (a_separator place separator at f) =
    (length g.tokens + place, judged.a_separator place separator refl at, record { expression = regular_of separator; at = part_of_separator g place separator at; front = f })
