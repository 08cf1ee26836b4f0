use Rattle.std.proofs.Common.{◌∙◌, ap, sym}
use Rattle.std.specs.List.{find}
use Rattle.std.specs.Str.{str_eq_ignore_ascii_case}
use Rattle.kola_base.specs.QueryWords.{is_among, words_left_out}
use Rattle.oql_syntax.specs.Alphabet.{query_word_spelling, query_word_named, or_left_out}
use Rattle.oql_syntax.proofs.WordLengths.{named_by_length}
use Rattle.oql_syntax.proofs.word.QueryWordAlphabet.named.Goals as goal

pub returns-in-Some : goal.returns-in-Some
unfolding query_word_named
returns-in-Some c =
    let h = named_by_length c.args.word.now in
    let w = ap (find (λ w. str_eq_ignore_ascii_case c.args.word.now (query_word_spelling w))) c.words_of_length.ensures in
    ap (or_left_out (is_among words_left_out c.args.word.now)) (sym c.in-Some.is ∙ c.written_so.ensures ∙ w ∙ h)

pub returns-in-None : goal.returns-in-None
unfolding query_word_named
returns-in-None c =
    let h = named_by_length c.args.word.now in
    let w = ap (find (λ w. str_eq_ignore_ascii_case c.args.word.now (query_word_spelling w))) c.words_of_length.ensures in
    let b = sym c.if-is_left_out.true ∙ c.is_left_out.ensures ∙ ap (is_among words_left_out) c.as_bytes.ensures.value in
    let o = sym c.in-None.is ∙ c.written_so.ensures ∙ w ∙ h in
    λ i. or_left_out (b i) (o i)

pub returns-in-None-2 : goal.returns-in-None-2
unfolding query_word_named
returns-in-None-2 c =
    let h = named_by_length c.args.word.now in
    let w = ap (find (λ w. str_eq_ignore_ascii_case c.args.word.now (query_word_spelling w))) c.words_of_length.ensures in
    let b = sym c.if-is_left_out.false ∙ c.is_left_out.ensures ∙ ap (is_among words_left_out) c.as_bytes.ensures.value in
    let o = sym c.in-None-2.is ∙ c.written_so.ensures ∙ w ∙ h in
    λ i. or_left_out (b i) (o i)
