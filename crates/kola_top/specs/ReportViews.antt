-- The report that the program handles, as the report of the definitions.
use Rattle.kola_top.specs.declared.output.Report.{Report as Handled}
use Rattle.kola_top.specs.Report.{Report}

abbrev pub report_view : Handled → Report
report_view r = record {
  query = r.query.now;
  block = r.block.now;
  plan = r.plan.now;
  outcome = r.outcome.now;
  ok = r.ok;
  firings = r.firings;
  steps = r.steps;
  visits = r.visits;
  result = r.result.now;
}
