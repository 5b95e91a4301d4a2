-- Which tokens are keywords.
use Rattle.std.proofs.Common.{◌≡◌, ◌∙◌, sym, ap, subst, refl, ℕ, ◌+◌, ◌<◌, Bool, true, false, IsTrue, ◌↔◌, List, [], ◌∷◌, ◌++◌, length, get_or, take, slice_get, Some, None}
use Rattle.std.specs.List.{Contains}
use Rattle.ts_base.specs.Bytes.{Bytes}
use Rattle.ts_core.specs.declared.rule.Grammar.{Grammar}
use Rattle.ts_core.specs.declared.rule.Rule.{Rule}
use Rattle.ts_rules.specs.FileGrammar.{IsFileGrammar}
use Rattle.ts_rules.specs.Sights.{NamedRule}
use Rattle.ts_rules.specs.Tokens.{Patterns, IsKeyword}
use Rattle.ts_tokens.specs.declared.definition.NamedToken.{NamedToken}
use Rattle.ts_tokens.specs.Definitions.{AreKeywords, trees_of}
use Rattle.ts_tokens.proofs.EachLemmas.{each_push}
use Rattle.ts_tokens.proofs.FirstLemmas.{map_more}
use Rattle.ts_tokens.proofs.MemberLemmas.{at_of}

-- in a grammar file a name has one tree
pub one_tree : (g : Grammar) (name : Bytes) (t u : Rule) → IsFileGrammar g → Contains g.rules (name, t) → Contains g.rules (name, u) → t ≡ u
one_tree g name t u file w v =
    let a = at_of g.rules (name, t) w in
    let b = at_of g.rules (name, u) v in
    let same = file.apart w.0 v.0 (name, t) (name, u) a b refl in
    let e : Some (name, t) ≡ Some (name, u) = sym a ∙ ap (slice_get g.rules) same ∙ b in
    let f : (name, t) ≡ (name, u) = cc in
    ap (λ (r : NamedRule). r.1) f

pub no_word : (pattern : Patterns) (g : Grammar) (tree : Rule) → g.word ≡ None → IsTrue false ↔ IsKeyword pattern g tree
no_word pattern g tree none = (λ t. absurd (let e : false ≡ true = t in cc), λ k. absurd (let e : Some k.word ≡ None = sym k.is_word ∙ none in cc))

-- one more token
pub keywords_more : (pattern : Patterns) (g : Grammar) (tokens : List NamedToken) (i : ℕ) (t : NamedToken) (flags : List Bool) (flag : Bool) → i < length tokens → t ≡ get_or tokens i t
    → IsTrue flag ↔ IsKeyword pattern g t.tree.now → AreKeywords pattern g (trees_of (take i tokens)) flags → AreKeywords pattern g (trees_of (take (i + 1) tokens)) (flags ++ flag ∷ [])
keywords_more pattern g tokens i t flags flag lt at is before =
    subst (λ (ts : List Rule). AreKeywords pattern g ts (flags ++ flag ∷ [])) (sym (map_more (λ (x : NamedToken). x.tree.now) tokens i t lt at))
    (each_push (λ (tree : Rule) (f : Bool). IsTrue f ↔ IsKeyword pattern g tree) (trees_of (take i tokens)) flags t.tree.now flag before is)
