mod ListLemmas
mod ReportLemmas
