-- What the program's symbols are.
use Rattle.kola_base.specs.Alphabets.{Symbol, KSign, KWord, KName, KNumber, KString}
use Rattle.kola_base.specs.declared.alphabet.Symbol as symbol
use Rattle.kola_base.specs.declared.alphabet.Symbol.TheVariants as k

abbrev pub symbol_view : {W : Type 0} → symbol.Symbol W → Symbol W
symbol_view (k.Sign s) = KSign s
symbol_view (k.Word w) = KWord w
symbol_view (k.Name n) = KName n.now
symbol_view (k.Number z) = KNumber z
symbol_view (k.Quoted q) = KString q
