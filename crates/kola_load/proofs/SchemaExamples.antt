-- Schemas read, computed.
use Rattle.std.proofs.Common.{◌≡◌, ℕ, suc, List, [], ◌∷◌, ◌++◌, Ok, Err, refl, codes}
use Rattle.kola_base.specs.Lexemes.{Lexeme, LWord, LSign}
use Rattle.kola_base.specs.Placed.{Placed}
use Rattle.kola_parse.specs.declared.why.Why.TheVariants.{Unexpected, TooDeep}
use Rattle.kola_parse.specs.Reader.{fault, whole}
use Rattle.kola_load.specs.SchemaTree.{Named, AInt, ASet, AClass}
use Rattle.kola_load.specs.SchemaAlphabet.{words, word_named}
use Rattle.kola_base.specs.Signs.{signs, sign_named}
use Rattle.kola_load.specs.SchemaReaders.{schema_at}

-- each lexeme one place behind the one before
abbrev from : ℕ → List Lexeme → List Placed
from n [] = []
from n (l ∷ ls) = record { says = l; at = n } ∷ from (suc n) ls

abbrev named : List ℕ → ℕ → Named
named bs at = record { name = bs; at = at }

-- class P (extent Ps,
head_only : List Lexeme
head_only = LWord (codes "class") ∷ LWord (codes "P") ∷ LSign (codes "(") ∷ LWord (codes "extent") ∷ LWord (codes "Ps") ∷ []

-- class P (extent Ps) {};
no_attributes : List Lexeme
no_attributes = LSign (codes ")") ∷ LSign (codes "{") ∷ LSign (codes "}") ∷ LSign (codes ";") ∷ []

-- key key, key (a, b)) {
two_keys : List Lexeme
two_keys =
    LWord (codes "key") ∷ LWord (codes "key") ∷ LSign (codes ",") ∷ LWord (codes "key") ∷ LSign (codes "(") ∷ LWord (codes "a") ∷ LSign (codes ",") ∷ LWord (codes "b") ∷ LSign (codes ")") ∷ LSign (codes ")") ∷ LSign (codes "{") ∷ []

-- attribute long class; attribute set<class> set; }
two_attributes : List Lexeme
two_attributes =
    LWord (codes "attribute") ∷ LWord (codes "long") ∷ LWord (codes "class") ∷ LSign (codes ";")
    ∷ LWord (codes "attribute") ∷ LWord (codes "set") ∷ LSign (codes "<") ∷ LWord (codes "class") ∷ LSign (codes ">") ∷ LWord (codes "set") ∷ LSign (codes ";") ∷ LSign (codes "}") ∷ []

no_schema : whole (schema_at 0) [] ≡ Ok []
no_schema = refl

keywords_are_names : whole (schema_at 1) (from 0 (head_only ++ two_keys ++ two_attributes))
    ≡ Ok (record {
      name = named (codes "P") 1;
      extent = named (codes "Ps") 4;
      keys = (named (codes "key") 6 ∷ []) ∷ (named (codes "a") 10 ∷ named (codes "b") 12 ∷ []) ∷ [];
      attributes = record { type = AInt; name = named (codes "class") 18 } ∷ record { type = ASet (AClass (named (codes "class") 23)); name = named (codes "set") 25 } ∷ [];
    } ∷ [])
unfolding head_only two_keys two_attributes sign_named word_named signs words
keywords_are_names = refl

one_set_too_many : whole (schema_at 0) (from 0 (head_only ++ two_keys ++ two_attributes)) ≡ Err (fault TooDeep (from 21 (LWord (codes "set") ∷ LSign (codes "<") ∷ LWord (codes "class") ∷ LSign (codes ">") ∷ LWord (codes "set") ∷ LSign (codes ";") ∷ LSign (codes "}") ∷ [])))
unfolding head_only two_keys two_attributes sign_named word_named signs words
one_set_too_many = refl

one_semicolon : whole (schema_at 0) (from 0 (head_only ++ no_attributes)) ≡ Ok (record { name = named (codes "P") 1; extent = named (codes "Ps") 4; keys = []; attributes = [] } ∷ [])
unfolding head_only no_attributes sign_named word_named signs words
one_semicolon = refl

two_semicolons : whole (schema_at 0) (from 0 (head_only ++ no_attributes ++ LSign (codes ";") ∷ [])) ≡ Err (fault Unexpected (from 9 (LSign (codes ";") ∷ [])))
unfolding head_only no_attributes sign_named word_named signs words
two_semicolons = refl

first_semicolon : whole (schema_at 0) (from 0 (LSign (codes ";") ∷ [])) ≡ Err (fault Unexpected (from 0 (LSign (codes ";") ∷ [])))
unfolding sign_named word_named signs words
first_semicolon = refl
