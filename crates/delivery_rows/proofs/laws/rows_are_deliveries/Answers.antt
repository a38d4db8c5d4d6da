use Rattle.delivery_rows.proofs.RowLemmas as rows
use Rattle.delivery_rows.proofs.laws.rows_are_deliveries.Goals as goal

pub returns-clause-each : goal.returns-clause-each
returns-clause-each c s day book = rows.rows_are_deliveries s day book

pub returns-clause-sums : goal.returns-clause-sums
returns-clause-sums c s day n book legal = rows.rows_add_up s day n book legal
