-- The kinds of the tokens, one after another.
use Rattle.std.proofs.Common.{◌≡◌, ◌∙◌, sym, ap, ℕ, ◌+◌, ◌<◌, List, [], ◌∷◌, ◌++◌, length, map, take, get_or}
use Rattle.std.proofs.lemmas.List.{take_more, map-append}
use Rattle.ts_core.specs.declared.flat.TokenDef.{TokenDef}
use Rattle.ts_lexer.specs.declared.rules.Kind.{Kind}
use Rattle.ts_lexer.specs.Rules.{kind_of}

pub kinds_more : (tokens : List TokenDef) (i : ℕ) (t : TokenDef) (done new : List Kind) (kind : Kind) → i < length tokens → t ≡ get_or tokens i t → kind ≡ kind_of t
    → done ≡ map kind_of (take i tokens) → new ≡ done ++ kind ∷ [] → new ≡ map kind_of (take (i + 1) tokens)
kinds_more tokens i t done new kind below is kind_is so_far pushed =
    pushed ∙ ap (λ (l : List Kind). l ++ kind ∷ []) so_far ∙ ap (λ (k : Kind). map kind_of (take i tokens) ++ k ∷ []) kind_is
    ∙ sym (ap (λ (l : List TokenDef). map kind_of l) (take_more tokens i t below ∙ ap (λ (x : TokenDef). take i tokens ++ x ∷ []) (sym is)) ∙ map-append kind_of (take i tokens) (t ∷ []))
