-- The lines that the program handles, as the lines of the layout.
use Rattle.kola_top.specs.declared.lines.Line.{Line as Handled}
use Rattle.kola_top.specs.Layout.{Line}

abbrev pub line_view : Handled → Line
line_view l = record { bytes = l.bytes.now; from = l.from; next = l.next }
