-- Each answer to the words and a job has the cause that its status names.
use Rattle.std.proofs.Common.{inl, inr}
use Rattle.kola_top.specs.Answer.{usage, too_long, layout, missing, schema, rules_text, rule, check_report, query_text, query_type, too_large, translate_report, database, visits, run_report}
use Rattle.kola_top.specs.Causes.{AnswersHaveCauses, not_spelled, not_typed, checked, translated, ran}

pub answers_have_causes : AnswersHaveCauses
answers_have_causes words job _ _ (usage e) = e
answers_have_causes words job _ _ (too_long a e h) = (a, e, h)
answers_have_causes words job _ _ (layout a f s h) = (a, inl (s, (f, h)))
answers_have_causes words job _ _ (missing a s h) = (a, inr (s, h))
answers_have_causes words job _ _ (schema a at why s h) = (a, (s, (at, why, h)))
answers_have_causes words job _ _ (rules_text a at why s h) = (a, inl (s, (at, why, h)))
answers_have_causes words job _ _ (rule a name step why s h) = (a, inr (s, (name, step, why, h)))
answers_have_causes words job _ _ (check_report s) = checked s
answers_have_causes words job _ _ (query_text a at cause s n h) = not_spelled a at cause s n h
answers_have_causes words job _ _ (query_type a at why s h) = not_typed a at why s h
answers_have_causes words job _ _ (too_large a s h) = (a, s, h)
answers_have_causes words job _ _ (translate_report s) = translated s
answers_have_causes words job _ _ (database e s h) = (s, (e, h))
answers_have_causes words job _ _ (visits s h) = (s, h)
answers_have_causes words job _ _ (run_report s) = ran s
