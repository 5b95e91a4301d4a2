-- One word, read by its place.
use Rattle.std.proofs.Common.{◌≡◌, List, [], ◌∷◌, map, length, get_or, arith, String, string_bytes}
use Rattle.std.specs.declared.alloc.Global.{Global}

pub only_text : (words : List (String Global)) (word : String Global) → length words ≡ 1
    → word ≡ get_or words 0 word → map string_bytes words ≡ string_bytes word ∷ []
only_text [] word one is = absurd (omega arith)
only_text (x ∷ []) word one is = cc
only_text (x ∷ y ∷ words) word one is = absurd (omega arith)
