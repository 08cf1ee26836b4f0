use Rattle.std.proofs.Common.{◌∙◌, ap}
use Rattle.std.specs.List.{find}
use Rattle.std.specs.Str.{bytes_eq}
use Rattle.kola_base.specs.TermWords.{term_word_spelling}
use Rattle.kola_base.proofs.TermWordLengths.{named_by_length}
use Rattle.kola_base.proofs.term_word.TermWordAlphabet.named.Goals as goal

pub returns : goal.returns
returns c =
    c.written_so.ensures
    ∙ ap (find (λ w. bytes_eq (term_word_spelling w) c.args.word.now)) c.words_of_length.ensures
    ∙ named_by_length c.args.word.now
